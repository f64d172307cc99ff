-- The result of writing a form into the caller's buffer, from the results of its parts.
use Rattle.std.proofs.Common.{◌≡◌, ℕ, Option, Some, None, List, Result, Ok, Err, IfOk, IfErr, OnErr, refl, sym, subst, arith}
use Rattle.px_engine.specs.declared.error.Fault.{Fault}
use Rattle.px_engine.specs.declared.error.Fault.TheVariants.{Refused, NormalTooLong, OutOfMemory, ReadFailed, WriteFailed}
use Rattle.px_engine.specs.declared.normal.Given.{Given}
use Rattle.px_engine.specs.declared.kind.BlockKind.{BlockKind}
use Rattle.px_engine.specs.Files.{Said, normal, kind_of, block_of}
use Rattle.px_engine.specs.Input.{HasMeaningAs, IsFaultyIn, CountsAllocFailureInRunBy}
use Rattle.px_engine.specs.Slices.{PutsForm, IsUnwritten}
use Rattle.px_engine.specs.calls.Filled.{PutsShort}
use Rattle.px_engine.specs.calls.Putting.{given_of, PutsBlock, IsUnput}

-- ---- a block that has a meaning

module _ (k : BlockKind) (b old new : List ℕ) (s : Said) (h : HasMeaningAs k b s) where
  pub put_has_meaning : (r : Option Given) (a : Result Given Fault) → PutsShort r (normal s) old new → a ≡ given_of r
      → IfOk a (λ given. PutsBlock k b given old new)
  put_has_meaning (Some given) a p q = subst (λ z. IfOk z (λ g. PutsBlock k b g old new)) (sym q) (s, h, p.1, p.0)
  put_has_meaning None a p q = subst (λ z. IfOk z (λ g. PutsBlock k b g old new)) (sym q) tt

  pub put_long : (n : ℕ) (r : Option Given) (a : Result Given Fault) → PutsShort r (normal s) old new → a ≡ given_of r
      → IfErr a (IsUnput k b n)
  put_long n (Some given) a p q = subst (λ z. IfErr z (IsUnput k b n)) (sym q) tt
  put_long n None a p q = subst (λ z. IfErr z (IsUnput k b n)) (sym q) (s, h, p.1)

  pub put_kept : (r : Option Given) (a : Result Given Fault) → PutsShort r (normal s) old new → a ≡ given_of r → OnErr a (new ≡ old)
  put_kept (Some given) a p q = subst (λ z. OnErr z (new ≡ old)) (sym q) tt
  put_kept None a p q = subst (λ z. OnErr z (new ≡ old)) (sym q) p.0

pub given_alloc_failure : (r : Option Given) (a : Result Given Fault) (first last : ℕ) → a ≡ given_of r → last ≡ first
    → CountsAllocFailureInRunBy a first last
given_alloc_failure (Some given) a first last q e = subst (λ z. CountsAllocFailureInRunBy z first last) (sym q) e
given_alloc_failure None a first last q e = subst (λ z. CountsAllocFailureInRunBy z first last) (sym q) e

-- ---- the file with the block

module _ (f b : List ℕ) (k : BlockKind) (is_kind : k ≡ kind_of f) (is_block : b ≡ block_of f) where
  meaning_there : (s : Said) → HasMeaningAs k b s → HasMeaningAs (kind_of f) (block_of f) s
  meaning_there s h = subst (λ z. HasMeaningAs z (block_of f) s) is_kind (subst (λ z. HasMeaningAs k z s) is_block h)

  pub block_puts : (r : Result Given Fault) (old new : List ℕ) → IfOk r (λ given. PutsBlock k b given old new)
      → IfOk r (λ given. PutsForm f given old new)
  block_puts (Ok given) old new h = let (s, x, l, p) = h in (s, normal s, (meaning_there s x, refl, l), p)
  block_puts (Err e) old new h = tt

  unput_there : (n : ℕ) (fault : Fault) → IsUnput k b n fault → IsUnwritten f n fault
  unput_there n (Refused cause place) h =
      subst (λ z. IsFaultyIn z (block_of f) cause place) is_kind (subst (λ z. IsFaultyIn k z cause place) is_block h)
  unput_there n OutOfMemory h = h
  unput_there n NormalTooLong h =
      let (s, x, l) = h in let there = meaning_there s x in let most = there.bounded in (s, there, l, omega arith)
  unput_there n ReadFailed h = h
  unput_there n WriteFailed h = h

  pub block_unput : (r : Result Given Fault) (n : ℕ) → IfErr r (IsUnput k b n) → IfErr r (IsUnwritten f n)
  block_unput (Ok given) n h = tt
  block_unput (Err fault) n h = unput_there n fault h
