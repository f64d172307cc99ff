-- A run appends the calls of its request to the list that files keep, and no other.
use Rattle.std.proofs.Common.{◌≡◌, ◌∙◌, ◌++◌, ◌∷◌, [], ℕ, List, Option, Result, inl, inr, refl, sym, ap, append_assoc, append-nil}
use Rattle.std.specs.Prelude.{⊤}
use Rattle.px_engine.specs.declared.Fault.{Fault}
use Rattle.px_words.specs.declared.Words.{Words}
use Rattle.px_words.specs.declared.Words.TheVariants as words
use Rattle.px_bytes.specs.Devices.{Device}
use Rattle.px_bytes.specs.Allocations.{MemoryCounts}
use Rattle.px_runs.specs.Programs.{job_of, EndsBeside, EndsFile, EndsFiles, EndsForm, EndsOther, EndsWords}
use Rattle.px_runs.specs.Logs.{Call, Open, Make, Close, IsLog, MayCall}

-- a list of calls and one more
more : (a b c : List Call) (calls : List Call) (x : Call) → b ≡ a ++ calls → c ≡ b ++ x ∷ [] → c ≡ a ++ (calls ++ x ∷ [])
more a b c calls x p q = q ∙ ap (λ l. l ++ x ∷ []) p ∙ append_assoc a calls (x ∷ [])

-- no call
none_made : {F : Type 0} (log : F → List Call) (f g : F) → g ≡ f → log g ≡ log f ++ []
none_made log f g p = ap log p ∙ sym (append-nil (log f))

module _ {F R W : Type 0} (remaining : R → Option (List ℕ)) (contents : W → Option (List ℕ))
    (opens : F → List ℕ → Result R Fault → F → Type 0) (makes : F → List ℕ → R → Result (Option W) Fault → F → Type 0)
    (closes : F → W → Result ⊤ Fault → F → Type 0) (log : F → List Call)
    (logs : IsLog remaining contents opens makes closes log) where
  file_called : (job : _) (file : List ℕ) (f g : F) (t u : MemoryCounts) (status : ℕ) (out lines : Device)
      → EndsFile remaining contents opens makes closes job file f g t u status out lines → log g ≡ log f ++ Open file ∷ []
  file_called job file f g t u status out lines (inl x) = logs.opened f g file _ x.0.1
  file_called job file f g t u status out lines (inr x) = logs.opened f g file _ x.1

  beside_called : (file out : List ℕ) (reader : R) (e f g : F) (t u : MemoryCounts) (status : ℕ) (lines : Device)
      → log f ≡ log e ++ Open file ∷ [] → EndsBeside remaining contents opens makes closes out reader f g t u status lines
      → (calls : List Call) × MayCall (words.Normalise file out) calls × (log g ≡ log e ++ calls)
  beside_called file out reader e f g t u status lines p (inl x) = (
    Open file ∷ Make out ∷ Close (contents x.2) ∷ [],
    inr (inr (contents x.2, refl)),
    more (log e) (log x.0) (log g) (Open file ∷ Make out ∷ []) _
        (more (log e) (log f) (log x.0) (Open file ∷ []) _ p (logs.made f x.0 out reader _ x.5)) (logs.closed x.0 g x.2 x.4 x.6),
  )
  beside_called file out reader e f g t u status lines p (inr (inl x)) =
      (Open file ∷ Make out ∷ [], inr (inl refl), more (log e) (log f) (log g) (Open file ∷ []) _ p (logs.made f g out reader _ x.1))
  beside_called file out reader e f g t u status lines p (inr (inr x)) =
      (Open file ∷ Make out ∷ [], inr (inl refl), more (log e) (log f) (log g) (Open file ∷ []) _ p (logs.made f g out reader _ x.0))

  form_called : (file out : List ℕ) (f g : F) (t u : MemoryCounts) (status : ℕ) (lines : Device)
      → EndsForm remaining contents opens makes closes file out f g t u status lines
      → (calls : List Call) × MayCall (words.Normalise file out) calls × (log g ≡ log f ++ calls)
  form_called file out f g t u status lines (inl x) = (Open file ∷ [], inl refl, logs.opened f g file _ x.1)
  form_called file out f g t u status lines (inr x) =
      beside_called file out x.1 f x.0 g t u status lines (logs.opened f x.0 file _ x.2) x.3

  other_called : (first second : List ℕ) (reader : R) (e f g : F) (t u : MemoryCounts) (status : ℕ) (lines : Device)
      → log f ≡ log e ++ Open first ∷ [] → EndsOther remaining contents opens makes closes reader second f g t u status lines
      → (calls : List Call) × MayCall (words.Compare first second) calls × (log g ≡ log e ++ calls)
  other_called first second reader e f g t u status lines p (inl x) =
      (Open first ∷ Open second ∷ [], inr refl, more (log e) (log f) (log g) (Open first ∷ []) _ p (logs.opened f g second _ x.1))
  other_called first second reader e f g t u status lines p (inr x) =
      (Open first ∷ Open second ∷ [], inr refl, more (log e) (log f) (log g) (Open first ∷ []) _ p (logs.opened f g second _ x.1))

  files_called : (first second : List ℕ) (f g : F) (t u : MemoryCounts) (status : ℕ) (lines : Device)
      → EndsFiles remaining contents opens makes closes first second f g t u status lines
      → (calls : List Call) × MayCall (words.Compare first second) calls × (log g ≡ log f ++ calls)
  files_called first second f g t u status lines (inl x) = (Open first ∷ [], inl refl, logs.opened f g first _ x.1)
  files_called first second f g t u status lines (inr x) =
      other_called first second x.1 f x.0 g t u status lines (logs.opened f x.0 first _ x.2) x.3

  pub words_called : (asked : Words) (f g : F) (t u : MemoryCounts) (status : ℕ) (input out lines : Device)
      → EndsWords remaining contents opens makes closes asked f g t u status input out lines
      → (calls : List Call) × MayCall asked calls × (log g ≡ log f ++ calls)
  words_called words.Filter f g t u status input out lines x = ([], refl, none_made log f g x.0)
  words_called (words.One what file) f g t u status input out lines x =
      (Open file ∷ [], refl, file_called (job_of what) file f g t u status out lines x.1)
  words_called (words.Normalise file out_name) f g t u status input out lines x = form_called file out_name f g t u status lines x.2
  words_called (words.Compare first second) f g t u status input out lines x = files_called first second f g t u status lines x.2
  words_called (words.Help text) f g t u status input out lines x = ([], refl, none_made log f g x.0)
  words_called (words.Refused text) f g t u status input out lines x = ([], refl, none_made log f g x.0)
  words_called words.NoMemory f g t u status input out lines x = ([], refl, none_made log f g x.0)
  words_called words.Unread f g t u status input out lines x = ([], refl, none_made log f g x.0)
