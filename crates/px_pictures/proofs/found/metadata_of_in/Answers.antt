use Rattle.std.proofs.Common.{◌≡◌, ◌≤◌, ℕ, List, length, ap, ◌∙◌, arith}
use Rattle.px_jpeg.specs.declared.Part.{Part}
use Rattle.px_jpeg.specs.Head.{HasHead, Picture}
use Rattle.px_pictures.specs.Metadata.{joined_size}
use Rattle.px_pictures.proofs.Inside.{head_front, joined_within}
use Rattle.px_pictures.proofs.found.metadata_of_in.Goals as goal

-- what is joined of a head that was read
record Joins (b : List ℕ) (n : ℕ) : Type 0 where
  within : n ≤ length b
  is : (parts : List Part) → HasHead b parts → n ≡ joined_size b parts

joins : ((b : List ℕ) (ps qs : List Part) → HasHead b ps → HasHead b qs → ps ≡ qs) → (b : List ℕ) (h f : Picture) (n : ℕ) → h.octets ≡ b
    → HasHead b h.parts → f ≡ h → n ≡ joined_size f.octets f.parts → Joins b n
joins one b h f n e s g m =
    let same : n ≡ joined_size b h.parts = m ∙ ap (λ (p : Picture). joined_size p.octets p.parts) g ∙ ap (λ (x : List ℕ). joined_size x h.parts) e in
    record {
      within = omega (arith, same, joined_within b h.parts (head_front b h.parts s));
      is = λ parts t. same ∙ ap (joined_size b) (one b h.parts parts s t);
    }

pub returns-in-Ok-join_in-clause-asked : goal.returns-in-Ok-join_in-clause-asked
returns-in-Ok-join_in-clause-asked c =
    let j = joins c.one_head.ensures c.args.bytes.now c.in-Ok.head c.front-front.result c.in-Some.size c.in-Ok.ensures.0 c.in-Ok.ensures.1
    c.front-front.ensures.value c.in-Some.ensures.0 in
    omega (arith, j.within, c.join_in.ensures.asked)

pub returns-in-Ok-join_in-clause-joined : goal.returns-in-Ok-join_in-clause-joined
returns-in-Ok-join_in-clause-joined c = λ parts k.
    let j = joins c.one_head.ensures c.args.bytes.now c.in-Ok.head c.front-front.result c.in-Some.size c.in-Ok.ensures.0 c.in-Ok.ensures.1
    c.front-front.ensures.value c.in-Some.ensures.0 in
    omega (arith, j.is parts k, c.join_in.ensures.asked)

pub returns-in-Err-join_in-clause-asked : goal.returns-in-Err-join_in-clause-asked
returns-in-Err-join_in-clause-asked c =
    let j = joins c.one_head.ensures c.args.bytes.now c.in-Ok.head c.front-front.result c.in-Some.size c.in-Ok.ensures.0 c.in-Ok.ensures.1
    c.front-front.ensures.value c.in-Some.ensures.0 in
    omega (arith, j.within, c.join_in.ensures.asked)

pub returns-in-Err-join_in-clause-joined : goal.returns-in-Err-join_in-clause-joined
returns-in-Err-join_in-clause-joined c = λ parts k.
    let j = joins c.one_head.ensures c.args.bytes.now c.in-Ok.head c.front-front.result c.in-Some.size c.in-Ok.ensures.0 c.in-Ok.ensures.1
    c.front-front.ensures.value c.in-Some.ensures.0 in
    omega (arith, j.is parts k, c.join_in.ensures.asked)
