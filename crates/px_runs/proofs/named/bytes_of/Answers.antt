use Rattle.std.proofs.Common.{rules, ◌≡◌, ◌≢◌, ◌<◌, ◌+◌, ℕ, List, Option, Some, length, drop, get_or, slice_index_or, inl, inr, refl, []}
use Rattle.std.proofs.lemmas.List.{drop_more}
use Rattle.px_runs.specs.declared.named.NamedFile.{NamedFile}
use Rattle.px_runs.specs.Named.{HasFile}
use Rattle.px_runs.proofs.named.bytes_of.Goals as goal

here : (fs : List NamedFile) (i : ℕ) (d : NamedFile) (name : List ℕ) → i < length fs → (get_or fs i d).name.now ≡ name
    → HasFile (drop i fs) name (Some (get_or fs i d).bytes.now)
here fs i d name l e = rw (drop_more fs i d l) (inl (e, refl))

later : (fs : List NamedFile) (i : ℕ) (d : NamedFile) (name : List ℕ) → i < length fs → (get_or fs i d).name.now ≢ name
    → (x : Option (List ℕ)) → HasFile (drop (i + 1) fs) name x → HasFile (drop i fs) name x
later fs i d name l n x h = rw (drop_more fs i d l) (inr (n, h))

abbrev none : NamedFile
none = record { name = record { ref_ptr = (0, 0); now = [] }; bytes = record { ref_ptr = (0, 0); now = [] } }

pub returns-then-eq : goal.returns-then-eq
returns-then-eq c =
    let fs = c.args.files.now in
    let i = c.loop-file.file-index in
    let l : i < length fs = search rules in
    let e : (slice_index_or fs i none).name.now ≡ c.args.name.now = search rules in
    c.loop-file.invariant _ (here fs i none c.args.name.now l e)

pub loop-file-preserved : goal.loop-file-preserved
loop-file-preserved c = λ x h.
    let fs = c.args.files.now in
    let i = c.loop-file.file-index in
    let l : i < length fs = search rules in
    let n : (slice_index_or fs i none).name.now ≢ c.args.name.now = search rules in
    c.loop-file.invariant x (later fs i none c.args.name.now l n x h)
