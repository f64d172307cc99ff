-- The record of a block can be computed, is unique, and is valid.
use Rattle.std.proofs.Common.{◌≡◌, ◌<◌, ◌≤◌, ℕ, suc, nat_le, inl, inr, refl, sym, ap, subst, ◌∙◌, arith, le-leb, leb-true, Option, Some}
use Rattle.std.proofs.Common.{None, option_map, List, [], ◌∷◌, ◌++◌, length, length-append}
use Rattle.std.specs.List.{AllByRecursion}
use Rattle.std.proofs.lemmas.Bool.{cond-true, cond-false, cases_Bool}
use Rattle.px_bytes.specs.Numbers.{AreBytes}
use Rattle.px_bytes.specs.Parts.{limit}
use Rattle.px_bytes.specs.lemmas.EachLaws.{each_map, each_append}
use Rattle.px_bytes.specs.lemmas.ByteLaws.{bytes_left, bytes_right}
use Rattle.px_iim.specs.DataSet.{DataSet, marker, IsEncoding, Encodes}
use Rattle.px_iim.specs.Group.{Group, Record, named, put, gather, IsItem, IsGroup}
use Rattle.px_iim.specs.Record.{SaysIim, sequence_of, iim_of}
use Rattle.px_iim.specs.lemmas.KeyLaws.{group_cases}
use Rattle.px_iim.specs.lemmas.GroupLaws.{new_group, longer, put_nil, put_at, put_under, put_over, put_all}
use Rattle.px_iim.specs.lemmas.GatherLaws.{gather_gathers}
use Rattle.px_iim.specs.lemmas.SequenceLaws.{Parsed, encodes_read, encodes_long, read_parsed}
use Rattle.px_iim.specs.Laws.{Computes, OneRecord, MeaningIsRecord}

-- ---- computed

pub meaning_sequence : (x : List ℕ) (i : Record) (s : SaysIim x i) → sequence_of (length x) x ≡ Some s.sequence
meaning_sequence x i s =
    let l = encodes_long s.sequence s.encoded s.encodes in
    let m = ap length s.whole ∙ length-append s.encoded s.zeros in
    ap (sequence_of (length x)) s.whole ∙ encodes_read (length x) s.sequence s.encoded s.zeros s.encodes s.some (omega arith) s.short
    s.blank

pub meaning_is_computed : (x : List ℕ) (i : Record) → SaysIim x i → iim_of x ≡ Some i
unfolding iim_of
meaning_is_computed x i s =
    cond-true _ _ _ (le-leb (length x) limit s.bounded)
    ∙ ap (option_map (gather [])) (meaning_sequence x i s) ∙ ap Some ((gather_gathers s.sequence i).0 s.gathered)

from_sequence : (x : List ℕ) (i : Record) → length x ≤ limit → (z : Option (List DataSet))
    → ((ds : List DataSet) → z ≡ Some ds → Parsed ds x) → option_map (gather []) z ≡ Some i → SaysIim x i
from_sequence x i b None f e = let clash : None ≡ Some i = e in absurd (cc)
from_sequence x i b (Some ds) f e =
    let p = f ds refl in
    let q : Some (gather [] ds) ≡ Some i = e in
    let g : gather [] ds ≡ i = cc in record {
      bounded = b;
      sequence = ds;
      some = p.some;
      encoded = p.front;
      zeros = p.zeros;
      whole = p.whole;
      encodes = p.encodes;
      short = p.short;
      blank = p.blank;
      gathered = (gather_gathers ds i).1 g;
    }

pub computed_is_meaning : (x : List ℕ) (i : Record) → iim_of x ≡ Some i → SaysIim x i
unfolding iim_of
computed_is_meaning x i e = elim (cases_Bool (nat_le (length x) limit)) [
  | inl t ↦ from_sequence x i (leb-true (length x) limit t) (sequence_of (length x) x) (read_parsed (length x) x) (sym (cond-true _ _ _ t)
      ∙ e)
  | inr f ↦ let clash : None ≡ Some i = sym (cond-false _ _ _ f) ∙ e in absurd (cc)
]

pub iim_of_computes : Computes
iim_of_computes x i = (meaning_is_computed x i, computed_is_meaning x i)

-- ---- one record

pub one_record : OneRecord
one_record x i j s t = let e : Some i ≡ Some j = sym (meaning_is_computed x i s) ∙ meaning_is_computed x j t in cc

-- ---- a record

-- in the range of its type
abbrev pub IsGood : DataSet → Type 0
IsGood d = (d.rec < 256) × IsItem (new_group d).rec (new_group d).number (d.number, d.octets)

encoded_good : (d : DataSet) (a : List ℕ) → AreBytes a → length a ≤ limit → IsEncoding d a → IsGood d
encoded_good d a b l (c, e, h) =
    let o : AreBytes (marker ∷ d.rec ∷ d.number ∷ (c ++ d.octets)) = subst AreBytes e b in
    let m = ap length e in
    let k = length-append c d.octets in
    (o 1, record { byte = o 2; member = refl; bytes = bytes_right c d.octets (λ j. o (suc (suc (suc j)))); bounded = omega arith })

encodes_good : (ds : List DataSet) (a : List ℕ) → AreBytes a → length a ≤ limit → Encodes ds a → AllByRecursion IsGood ds
encodes_good [] a b l h = tt
encodes_good (d ∷ ds) a b l (x, y, e, s, t) =
    let z : AreBytes (x ++ y) = subst AreBytes e b in
    let m = ap length e ∙ length-append x y in
    (encoded_good d x (bytes_left x y z) (omega arith) s, encodes_good ds y (bytes_right x y z) (omega arith) t)

-- an item of a group is one of any group of that name
item_moves : (g h : Group) → g.rec ≡ h.rec → g.number ≡ h.number → (x : ℕ × List ℕ) → IsItem g.rec g.number x → IsItem h.rec h.number x
item_moves g h p q x k = record {
  byte = k.byte;
  member = ap (λ (r : ℕ). named r x.0) (sym p) ∙ k.member ∙ q;
  bytes = k.bytes;
  bounded = k.bounded;
}

-- groups stay whole
pub put_groups : (d : DataSet) (i : Record) → IsGood d → AllByRecursion IsGroup i → AllByRecursion IsGroup (put d i)
put_groups d i good h = put_all IsGroup d
    (record { byte = good.0; some = omega arith; items = (good.1, tt) })
    (λ g a k. let e = length-append g.items ((d.number, d.octets) ∷ []) in record {
      byte = k.byte;
      some = omega arith;
      items = each_append (IsItem (longer d g).rec (longer d g).number) g.items ((d.number, d.octets) ∷ [])
          (each_map (IsItem g.rec g.number) (IsItem (longer d g).rec (longer d g).number) (item_moves g (longer d g) refl refl) g.items
          k.items)
          (item_moves (new_group d) (longer d g) (sym a.1) (sym a.2) (d.number, d.octets) good.1, tt);
    }) i h

gather_groups : (ds : List DataSet) (i : Record) → AllByRecursion IsGood ds → AllByRecursion IsGroup i
    → AllByRecursion IsGroup (gather i ds)
unfolding gather
gather_groups [] i good h = h
gather_groups (d ∷ ds) i good h = gather_groups ds (put d i) good.1 (put_groups d i good.0 h)

pub put_some : (d : DataSet) (i : Record) → 1 ≤ length (put d i)
put_some d [] = let e = ap length (put_nil d) in omega arith
put_some d (g ∷ gs) = elim (group_cases d.rec (named d.rec d.number) g) [
  | inl a ↦ let e = ap length (put_at d g gs a.0) in omega arith
  | inr (inl u) ↦ let e = ap length (put_under d g gs u.0 u.1) in omega arith
  | inr (inr o) ↦ let e = ap length (put_over d g gs o.0 o.1) in omega arith
]

gather_some : (ds : List DataSet) (i : Record) → 1 ≤ length i → 1 ≤ length (gather i ds)
unfolding gather
gather_some [] i h = h
gather_some (d ∷ ds) i h = gather_some ds (put d i) (put_some d i)

gathered_some : (ds : List DataSet) → 1 ≤ length ds → 1 ≤ length (gather [] ds)
unfolding gather
gathered_some [] h = absurd (omega arith)
gathered_some (d ∷ ds) h = gather_some ds (put d []) (put_some d [])

pub meaning_is_record : MeaningIsRecord
meaning_is_record x i b s =
    let e : gather [] s.sequence ≡ i = (gather_gathers s.sequence i).0 s.gathered in
    let l = s.bounded in
    let m = ap length s.whole ∙ length-append s.encoded s.zeros in
    let good = encodes_good s.sequence s.encoded (bytes_left s.encoded s.zeros (subst AreBytes s.whole b)) (omega arith) s.encodes in
    record {
      some = subst (λ (z : Record). 1 ≤ length z) e (gathered_some s.sequence s.some);
      whole = record {
        ascending = s.gathered.ascending;
        groups = subst (AllByRecursion IsGroup) e (gather_groups s.sequence [] good tt);
      };
    }
