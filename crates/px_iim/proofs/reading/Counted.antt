-- The number of DataSets of a record.
use Rattle.std.proofs.Common.{◌≡◌, ℕ, ◌+◌, ◌≤◌, inl, inr, Option, Some, None, option_map, List, [], ◌∷◌, length, drop}
use Rattle.std.proofs.Common.{flat_map, sym, ap, ◌∙◌, arith, length-append}
use Rattle.std.proofs.lemmas.Bool.{cases_Bool}
use Rattle.px_iim.specs.declared.dataset.Found.{Found}
use Rattle.px_iim.specs.Asking.{dataset_count}
use Rattle.px_iim.specs.DataSet.{DataSet}
use Rattle.px_iim.specs.Group.{Group, Record, named, is_at, put, gather}
use Rattle.px_iim.specs.Record.{is_end}
use Rattle.px_iim.specs.lemmas.KeyLaws.{group_cases}
use Rattle.px_iim.specs.lemmas.GroupLaws.{longer, put_nil, put_at, put_under, put_over}
use Rattle.px_iim.specs.calls.Reading.{Reads, found_view}
use Rattle.px_iim.specs.calls.Runs.{join, runs}
use Rattle.px_iim.proofs.reading.Runs.{join_at, join_new}
use Rattle.px_iim.proofs.reading.Steps.{datasets, meaning_last, meaning_more, gather_last, gather_more}

count_cons : (g : Group) (gs : Record) → dataset_count (g ∷ gs) ≡ length g.items + dataset_count gs
count_cons g gs = length-append g.items (flat_map (λ h. h.items) gs)

pub count_put : (d : DataSet) (i : Record) → dataset_count (put d i) ≡ dataset_count i + 1
count_put d [] = let e = ap dataset_count (put_nil d) in omega arith
count_put d (g ∷ gs) =
    let whole = count_cons g gs in
    elim (group_cases d.rec (named d.rec d.number) g) [
      | inl t ↦
          let e = ap dataset_count (put_at d g gs t.0) in
          let l = length-append g.items ((d.number, d.octets) ∷ []) in
          let m = count_cons (longer d g) gs in omega arith
      | inr (inl u) ↦ let e = ap dataset_count (put_under d g gs u.0 u.1) in omega arith
      | inr (inr o) ↦ let e = ap dataset_count (put_over d g gs o.0 o.1) in
          let n = count_put d gs in
          let m = count_cons g (put d gs) in omega arith
    ]

pub count_gather : (ds : List DataSet) (i : Record) → dataset_count (gather i ds) ≡ dataset_count i + length ds
unfolding gather
count_gather [] i = omega arith
count_gather (d ∷ ds) i = let e = count_gather ds (put d i) in let n = count_put d i in omega arith

count_join : (d : DataSet) (i : Record) → dataset_count (join d i) ≡ dataset_count i + 1
count_join d [] = omega arith
count_join d (g ∷ gs) = elim (cases_Bool (is_at d.rec (named d.rec d.number) g)) [
  | inl t ↦ let e = ap dataset_count (join_at d g gs t) in omega arith
  | inr f ↦ let e = ap dataset_count (join_new d g gs f) in omega arith
]

pub count_runs : (ds : List DataSet) → dataset_count (runs ds) ≡ length ds
count_runs [] = omega arith
count_runs (d ∷ ds) = let e = count_join d (runs ds) in let n = count_runs ds in omega arith

-- ---- a record that is read DataSet by DataSet

pub count_left : (i all : Record) (o : Option (List DataSet)) → option_map (gather i) o ≡ Some all → dataset_count i ≤ dataset_count all
count_left i all None e = absurd (cc)
count_left i all (Some ds) e =
    let same : gather i ds ≡ all = cc in let n = ap dataset_count same in let m = count_gather ds i in omega arith

-- one more DataSet is read, so the record has one more
pub count_next : (x : List ℕ) (at : ℕ) (f : Found) → Reads (drop at x) f → (i all : Record)
    → option_map (gather i) (datasets (drop at x)) ≡ Some all → dataset_count i + 1 ≤ dataset_count all
count_next x at f r i all e = elim (cases_Bool (is_end (drop (at + f.size) x))) [
  | inl t ↦
      let h = ap (option_map (gather i)) (meaning_last x at f r t) ∙ gather_last i (found_view f) in
      let q : ◌≡◌ {A = Option Record} (Some (put (found_view f) i)) (Some all) = sym h ∙ e in
      let same : put (found_view f) i ≡ all = cc in
      let n = ap dataset_count same in let m = count_put (found_view f) i in omega arith
  | inr s ↦
      let h = ap (option_map (gather i)) (meaning_more x at f r s) ∙ gather_more i (found_view f) (datasets (drop (at + f.size) x)) in
      let n = count_left (put (found_view f) i) all (datasets (drop (at + f.size) x)) (sym h ∙ e) in
      let m = count_put (found_view f) i in omega arith
]
