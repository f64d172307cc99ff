-- What an output has after a change of the innermost element.
use Rattle.std.proofs.Common.{◌≡◌, ◌<◌, ◌+◌, ◌-◌, ◌++◌, ◌∷◌, [], ◌∙◌, refl, ℕ, suc, List, sym, ap, subst, Bool, arith, add-one}
use Rattle.std.proofs.Common.{length, length-take, take, drop, get_or, reverse}
use Rattle.std.proofs.lemmas.List.{drop_all, take-append-drop, reverse-append, set-append_right}
use Rattle.std.proofs.Math.ListN.{set}
use Rattle.std.proofs.Math.Seq.{drop-cons}
use Rattle.px_xmp_forms.specs.Entries.{Entry}
use Rattle.px_xmp_forms.specs.Outputs.{Open, State, Has, IsLevel, AreLevels, begun, changed, first_changed, SortsIf, JoinsFirst, with_joined}
use Rattle.px_xmp_forms.specs.declared.output.Level.{Level}
use Rattle.px_xmp_forms.specs.declared.output.Output.{Output}

pub has_changed : (new : Output) (f : Open → Open) (s : State) (o : Open) (os : List Open) → s.opened ≡ o ∷ os
    → Has new (begun (f o) (record { opened = os; properties = s.properties })) → Has new (changed f s)
has_changed new f s o os e h =
    subst (λ (xs : List Open). Has new (record { opened = first_changed f xs; properties = s.properties })) (sym e) h

pub joins_first : (b : Bool) (ws : List Open) (o : Open) (os : List Open) (fs : List Entry) → ws ≡ o ∷ os → SortsIf b o.entries fs
    → JoinsFirst b ws (with_joined fs o ∷ os)
joins_first b ws o os fs e k = subst (λ (vs : List Open). JoinsFirst b vs (with_joined fs o ∷ os)) (sym e) (fs, k, refl)

-- ---- the innermost element, changed where it is

-- elements before the last, and the last
split_last : (xs : List Level) (n : ℕ) (x : Level) → length xs ≡ n + 1 → x ≡ get_or xs n x
    → (ys : List Level) × (xs ≡ ys ++ x ∷ []) × (length ys ≡ n)
split_last xs n x l e =
    let some : n < length xs = omega arith in
    let rest : drop n xs ≡ x ∷ drop (n + 1) xs = rw add-one (drop-cons xs n x some ∙ ap (λ (z : Level). z ∷ drop (suc n) xs) (sym e)) in
    let none : drop (n + 1) xs ≡ [] = drop_all (n + 1) xs (omega arith) in (
      take n xs,
      sym (take-append-drop n xs) ∙ ap (λ (z : List Level). take n xs ++ z) (rest ∙ ap (λ (z : List Level). x ∷ z) none),
      omega (arith, length-take n xs),
    )

pub level_changed : (f : Open → Open) (xs : List Level) (ws : List Open) (n : ℕ) (x y : Level) → length xs ≡ n + 1 → x ≡ get_or xs n x
    → ((o : Open) → IsLevel x o → IsLevel y (f o)) → AreLevels (reverse xs) ws → AreLevels (reverse (set xs n y)) (first_changed f ws)
level_changed f xs ws n x y l e changes h =
    let (ys, whole, len) = split_last xs n x l e in
    let P : List Level → Type 0 = λ z. AreLevels z ws in
    let Q : List Level → Type 0 = λ z. AreLevels z (first_changed f ws) in
    let before : AreLevels (x ∷ reverse ys) ws = subst P (ap reverse whole ∙ reverse-append ys (x ∷ [])) h in
    let none : n - n ≡ 0 = omega arith in
    let after : set xs n y ≡ ys ++ y ∷ [] =
    ap (λ (z : List Level). set z n y) whole ∙ set-append_right ys (x ∷ []) n n y len (omega arith)
    ∙ ap (λ (k : ℕ). ys ++ set (x ∷ []) k y) none in
    subst Q (sym (ap reverse after ∙ reverse-append ys (y ∷ []))) (first ys ws before)
  where
    first : (ys : List Level) (ws : List Open) → AreLevels (x ∷ reverse ys) ws → AreLevels (y ∷ reverse ys) (first_changed f ws)
    first ys [] h = absurd h
    first ys (o ∷ os) h = (changes o h.0, h.1)
