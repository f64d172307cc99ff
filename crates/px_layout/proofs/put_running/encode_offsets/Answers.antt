use Rattle.std.proofs.Common.{◌≡◌, ◌∙◌, ◌+◌, ◌-◌, ◌*◌, ◌++◌, ℕ, List, length, take, drop, flat_map, map, refl, sym, ap, arith, append-nil}
use Rattle.std.proofs.lemmas.List.{take_all}
use Rattle.std.proofs.lemmas.Slice.{drop-put_mid}
use Rattle.px_bytes.specs.declared.Order.TheVariants.{Most}
use Rattle.px_bytes.specs.lemmas.NumberLaws.{length_spelling}
use Rattle.px_layout.specs.Laid.{long_bytes}
use Rattle.px_layout.specs.calls.Given.{strip_places}
use Rattle.px_layout.specs.lemmas.PutLaws.{encoded_more}
use Rattle.px_layout.proofs.writing.Runs.{place_read, strips_next}
use Rattle.px_layout.proofs.writing.StripPieces.{piece_is, number_here, bytes_next, length_put}
use Rattle.px_layout.proofs.put_running.encode_offsets.Goals as goal

abbrev size : List ℕ → ℕ
size x = length x

pub loop-i-init : goal.loop-i-init
loop-i-init c =
    let none : 4 * (c.args.start - c.args.start) ≡ 0 = omega arith in
    record {
      after = omega arith;
      left = refl;
      encoded = λ first h.
          let before = flat_map (long_bytes Most) (take c.args.start (strip_places first c.args.strips.now)) in
          sym (append-nil before) ∙ ap (λ (n : ℕ). before ++ take n c.encode_lengths.new.into) (sym none);
      long = (let h = c.encode_lengths.auto.into in let r = c.requires.space in omega arith);
      rest = ap (λ (n : ℕ). drop n c.encode_lengths.new.into) none
          ∙ piece_is (long_bytes Most) (map size c.args.strips.now) c.args.start c.args.end c.encode_lengths.new.into c.requires.rising
          c.encode_lengths.ensures;
    }

pub slice_bounds-get32-end : goal.slice_bounds-get32-end
slice_bounds-get32-end c =
    let low = c.loop-i.invariant.after in let long = c.loop-i.invariant.long in let below = c.loop-i-test.true in omega arith

pub overflow_add-next : goal.overflow_add-next
overflow_add-next c =
    let read = number_here c.args.strips.now c.loop-i.i c.args.end (4 * (c.loop-i.i - c.args.start)) c.loop-i.into c.loop-i-test.true
    c.requires.inside c.requires.short c.loop-i.invariant.rest _ c.get32-size.result (omega arith) c.get32-size.ensures in
    let s = strips_next c.args.strips.now c.loop-i.i c.get32-size.result read in
    let l = c.loop-i.invariant.left in
    let q = c.requires.most in
    omega arith

pub overflow_add-next-in-loop-i : goal.overflow_add-next-in-loop-i
overflow_add-next-in-loop-i c =
    let read = number_here c.args.strips.now c.loop-i.i c.args.end (4 * (c.loop-i.i - c.args.start)) c.loop-i.into c.loop-i-test.true
    c.requires.inside c.requires.short c.loop-i.invariant.rest _ c.get32-size.result (omega arith) c.get32-size.ensures in
    let s = strips_next c.args.strips.now c.loop-i.i c.get32-size.result read in
    let l = c.loop-i.invariant.left in
    let q = c.requires.most in
    omega arith

pub loop-i-preserved : goal.loop-i-preserved
loop-i-preserved c =
    let low = c.loop-i.invariant.after in
    let space = c.loop-i.invariant.long in
    let below = c.loop-i-test.true in
    let at = 4 * (c.loop-i.i - c.args.start) in
    let four : length c.put32.new.bytes ≡ 4 = ap length c.put32.ensures ∙ length_spelling Most 4 c.loop-i.next in
    let read = number_here c.args.strips.now c.loop-i.i c.args.end at c.loop-i.into below c.requires.inside c.requires.short
    c.loop-i.invariant.rest _ c.get32-size.result (omega arith) c.get32-size.ensures in
    let s = strips_next c.args.strips.now c.loop-i.i c.get32-size.result read in
    let l = c.loop-i.invariant.left in
    record {
      after = omega arith;
      left = omega arith;
      encoded = λ first h. encoded_more (long_bytes Most) (strip_places first c.args.strips.now) c.args.start c.loop-i.i c.loop-i.next
          _ _ _ c.loop-i.into c.put32.new.bytes
          (place_read first c.args.strips.now c.loop-i.i c.loop-i.next (let b = c.requires.inside in omega arith) (omega (arith, l, h)))
          c.put32.ensures (c.loop-i.invariant.encoded first h) (omega arith) (omega arith);
      long = length_put at (at + 4 - at) c.loop-i.into c.put32.new.bytes (omega arith) (omega arith) ∙ space;
      rest = bytes_next c.args.strips.now c.loop-i.i c.args.end at c.loop-i.into below c.requires.inside c.requires.short
          c.loop-i.invariant.rest (4 * (c.loop-i.i + 1 - c.args.start)) _ (omega arith)
          (drop-put_mid at (at + 4 - at) c.loop-i.into c.put32.new.bytes (4 * (c.loop-i.i + 1 - c.args.start)) (omega arith) (omega arith)
          (omega arith));
    }

pub shape_of-into : goal.shape_of-into
shape_of-into c = let l = c.loop-i.invariant.long in let r = c.requires.space in omega arith

pub returns-clause-encoded : goal.returns-clause-encoded
returns-clause-encoded c = λ first h.
    let long = c.loop-i.invariant.long in
    let last = c.loop-i.auto.i-end in
    let over = c.loop-i-test.false in
    let same : c.loop-i.i ≡ c.args.end = omega arith in
    let places = strip_places first c.args.strips.now in
    let all : take (4 * (c.loop-i.i - c.args.start)) c.loop-i.into ≡ c.loop-i.into =
    take_all (4 * (c.loop-i.i - c.args.start)) c.loop-i.into (omega arith) in
    ap (λ (n : ℕ). flat_map (long_bytes Most) (take n places)) (sym same) ∙ c.loop-i.invariant.encoded first h
    ∙ ap (λ (x : List ℕ). flat_map (long_bytes Most) (take c.args.start places) ++ x) all
