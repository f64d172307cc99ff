-- The result of planning the normal form.
use Rattle.std.specs.Prelude.{◌≡◌, ℕ, ◌+◌, ◌<◌, ◌≤◌, List, [], ◌∷◌, ◌++◌, length, Result, Ok, Err}
use Rattle.px_bytes.specs.declared.WriteRefusal.{WriteRefusal}
use Rattle.px_bytes.specs.declared.WriteRefusal.TheVariants.{NormalTooLong, OutOfMemory, WriteFailed}
use Rattle.px_bytes.specs.Parts.{limit}
use Rattle.px_meaning.specs.Tree.{Meaning}
use Rattle.px_layout.specs.declared.chunks.Chunk.{Chunk}
use Rattle.px_plans.specs.declared.plan.Plan as program
use Rattle.px_layout.specs.Plans.{Plan, Legal}
use Rattle.px_layout.specs.Normal.{even, running, padded_size, normal_plan, normal_exif}
use Rattle.px_plans.specs.calls.Planned.{plan_of}

-- the plan of the normal form, which is legal; or the form is too long; or an allocation failed
abbrev pub PlanResult : Result program.Plan WriteRefusal → Meaning → Type 0
PlanResult (Ok plan) m = (plan_of plan ≡ normal_plan m) × (length (normal_exif m) ≤ limit) × Legal m (plan_of plan)
PlanResult (Err NormalTooLong) m = limit < length (normal_exif m)
PlanResult (Err OutOfMemory) m = Unit {0}
PlanResult (Err WriteFailed) m = ⊥

-- ---- on the way

-- the chunks follow one another from the header on, and end at x
pub record Placed (plan : Plan) (x : ℕ) (cs : List (Chunk × ℕ)) : Type 0 where
  pub ends : x ≡ 8 + padded_size cs
  pub most : x ≤ limit
  pub each : (c : Chunk) → plan.offset c ≡ running 8 cs c

-- one more chunk is at x
abbrev pub NextResult : Result ℕ WriteRefusal → Plan → Plan → ℕ → Chunk × ℕ → Type 0
NextResult (Ok end) old new x c = (cs : List (Chunk × ℕ)) → Placed old x cs → Placed new end (cs ++ c ∷ [])
NextResult (Err NormalTooLong) old new x c = limit < x + even c.1
NextResult (Err OutOfMemory) old new x c = Unit {0}
NextResult (Err WriteFailed) old new x c = ⊥

-- all chunks have their offsets, one after another; or together they are longer than the limit
abbrev pub AllResult : Result ℕ WriteRefusal → Plan → List (Chunk × ℕ) → Type 0
AllResult (Ok end) plan cs = Placed plan end cs
AllResult (Err NormalTooLong) plan cs = limit < 8 + padded_size cs
AllResult (Err OutOfMemory) plan cs = Unit {0}
AllResult (Err WriteFailed) plan cs = ⊥
