-- The result of reading a block that was laid out, from that of reading any block.
use Rattle.std.proofs.Common.{◌≡◌, ℕ, List, Result, Ok, Err, IfOk, IfErr, subst, sym}
use Rattle.px_bytes.specs.declared.Order.{Order}
use Rattle.px_bytes.specs.declared.Refusal.{Refusal}
use Rattle.px_bytes.specs.declared.Refusal.TheVariants.{Content, OutOfMemory}
use Rattle.px_bytes.specs.Checks.{CountsAllocFailureInBlockBy}
use Rattle.px_layout.specs.Laid.{laid}
use Rattle.px_layout.specs.Plans.{Plan, Legal}
use Rattle.px_layout.specs.lemmas.LegalLaws.{legal_block_has_meaning}
use Rattle.px_plans.specs.RoundTrip.{ReadsBack}
use Rattle.px_meaning.specs.Writable.{IsWritable}
use Rattle.px_tree.specs.Refused.{IsRefused}
use Rattle.px_meaning.specs.Says.{SaysExif}
use Rattle.px_meaning.specs.Tree.{Meaning}
use Rattle.px_meaning.specs.declared.Meaning.{Meaning as Read}
use Rattle.px_meaning.specs.calls.Seen.{meaning_of}
use Rattle.px_meaning.specs.lemmas.MeaningLaws.{one_meaning}

meaning_reads_back : (r : Result Read Refusal) (b : List ℕ) (m : Meaning) (old new : ℕ) → SaysExif b m
    → IfOk r (λ x. SaysExif b (meaning_of x))
    → IfErr r (IsRefused b new) → CountsAllocFailureInBlockBy r old new → ReadsBack meaning_of r m old new
meaning_reads_back (Ok x) b m old new s h k l = (one_meaning b (meaning_of x) m h s, l)
meaning_reads_back (Err OutOfMemory) b m old new s h k l = l
meaning_reads_back (Err (Content cause place)) b m old new s h k l = absurd (k.no_meaning m s)

pub reads_back : (r : Result Read Refusal) (b : List ℕ) (old new : ℕ) → IfOk r (λ x. SaysExif b (meaning_of x)) → IfErr r (IsRefused b new)
    → CountsAllocFailureInBlockBy r old new → (m : Meaning) (plan : Plan) (o : Order) (filler : ℕ) → IsWritable m → Legal m plan
    → b ≡ laid m plan o filler
    → ReadsBack meaning_of r m old new
reads_back r b old new h k l m plan o filler f g e =
    meaning_reads_back r b m old new (subst (λ z. SaysExif z m) (sym e) (legal_block_has_meaning m plan o filler f g)) h k l
