use Rattle.std.proofs.Common.{◌≡◌, ◌∙◌, inr, unwrap_or, [], subst}
use Rattle.px_jpeg.specs.Head.{Picture}
use Rattle.px_jpeg.specs.Front.{HasFront}
use Rattle.px_jpeg.specs.Reading.{head_of, front}
use Rattle.px_jpeg.proofs.FirstParts.{some_has_meaning, head_front, front_inside}
use Rattle.px_jpeg.proofs.head.Head.front.Goals as goal

pub front_in-requires : goal.front_in-requires
front_in-requires c = front_inside c.self.inside.bytes.now

pub returns-clause-value : goal.returns-clause-value
returns-clause-value c =
    let b = c.self.inside.bytes.now in
    let parts : front b ≡ unwrap_or (head_of b) [] = head_front b (unwrap_or (head_of b) []) (some_has_meaning b c.self.invariant) in
    let same : ◌≡◌ {A = Picture} c.front_in.result (record { octets = b; parts = unwrap_or (head_of b) [] }) =
    λ i. record { octets = c.front_in.ensures.bytes i; parts = (c.front_in.ensures.parts ∙ parts) i } in
    same ∙ c.self.view_is

pub returns-clause-front : goal.returns-clause-front
returns-clause-front c =
    let b = c.self.inside.bytes.now in
    let s = some_has_meaning b c.self.invariant in
    subst (λ (p : Picture). HasFront p.octets p.parts) c.self.view_is
    (inr (record { encoded = s.encoded; rest = s.rest; whole = s.whole; encodes = s.encodes }))
