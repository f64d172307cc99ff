-- What a document means can be written and read again.
use Rattle.std.proofs.Common.{◌≡◌, ◌+◌, ◌-◌, ℕ, List, [], length, drop, sym, subst}
use Rattle.px_xmp_text.specs.Grammar.{OnlyReferencesAreRead}
use Rattle.px_xmp_text.specs.Values.{Structure}
use Rattle.px_xmp_marks.specs.Declarations.{DeclarationsAreRead}
use Rattle.px_xmp_document.specs.Document.{IsFile, order_mark_len}
use Rattle.px_xmp.specs.Nodes.{AreNodes}
use Rattle.px_xmp.specs.Meaning.{HasMeaning}
use Rattle.px_xmp.specs.Readable.{IsReadable}
use Rattle.px_xmp.specs.Laws.{KindsAreRead, MeaningsAreReadable, NormalIsFile, NormalSays, NormalKeepsMeaning, FormIsItsOwn}
use Rattle.px_xmp.proofs.DocumentLaws.{tree_once}
use Rattle.px_xmp.proofs.SoundLaws.{AreSound, document_sound}
use Rattle.px_xmp.proofs.ReadableLaws.{means_is}
use Rattle.px_xmp.proofs.WritableLaws.{readable_can}

pub meanings_are_readable : OnlyReferencesAreRead → DeclarationsAreRead → KindsAreRead → MeaningsAreReadable
meanings_are_readable texts declarations law x start c file meaning =
    let p = meaning.are in
    let same : p.tree ≡ file.tree =
    tree_once declarations (drop (order_mark_len x) x) p.declaration file.declaration p.tree file.tree p.encoding file.encoding p.parts file.parts in
    let at : ℕ = start + (length x - length p.tree) in
    let sound : AreSound meaning.nodes = document_sound law texts x file at meaning.nodes
    (subst (λ (z : List ℕ). AreNodes meaning.nodes [] at z []) same p.row) in
    let (ordered, readable) = means_is texts meaning.nodes c sound meaning.means in
    (readable_can Structure c readable, ordered, readable)

pub normal_keeps_meaning : MeaningsAreReadable → NormalIsFile → NormalSays → NormalKeepsMeaning
normal_keeps_meaning accepted file says x start c is meaning shallow =
    let (can, ordered, readable) = accepted x start c is meaning in
    let all : IsReadable c = (ordered, readable, shallow) in
    (file c can all, says c can all)

pub form_is_its_own : NormalIsFile → NormalSays → FormIsItsOwn
form_is_its_own file says form (c, can, readable, is) =
    (subst IsFile (sym is) (file c can readable), (c, can, subst (λ (z : List ℕ). HasMeaning z 0 c) (sym is) (says c can readable), is))
