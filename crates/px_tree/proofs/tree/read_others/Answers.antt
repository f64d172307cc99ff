use Rattle.std.proofs.Common.{◌∷◌, [], Some, ◌∙◌, refl}
use Rattle.std.proofs.lemmas.Result.{err_from_is_err_and}
use Rattle.px_meaning.specs.declared.Dir.TheVariants.{Exif, Interop, Gps, Thumb}
use Rattle.px_tree.proofs.reading.Named.{dirs_start, dirs_step, dirs_refuse, dirs_clean, dirs_end, names_exif, names_gps, names_interop}
use Rattle.px_tree.proofs.reading.Named.{names_thumb, main_is, main_directory_found}
use Rattle.std.proofs.Common.{arith}
use Rattle.px_tree.proofs.tree.read_others.Goals as goal

pub link_after-thumb_link-requires-clause-has_table : goal.link_after-thumb_link-requires-clause-has_table
link_after-thumb_link-requires-clause-has_table c = c.requires.read.table

pub read_linked-requires-clause-named : goal.read_linked-requires-clause-named
read_linked-requires-clause-named c =
    let b = c.args.source.now.block.now in
    let o = c.args.source.now.order in
    let lm = c.link_to_main-main_link.result in
    let nm = c.link_to_main-main_link.ensures in
    let me = c.requires.read.offset_at in
    names_exif b o c.link_to_exif-exif_link.result _ me _ c.link_to_exif-exif_link.ensures c.requires.read.uses.exif

pub read_linked-requires-2-clause-named : goal.read_linked-requires-2-clause-named
read_linked-requires-2-clause-named c =
    let b = c.args.source.now.block.now in
    let o = c.args.source.now.order in
    let lm = c.link_to_main-main_link.result in
    let nm = c.link_to_main-main_link.ensures in
    let me = c.requires.read.offset_at in
    names_interop b o c.link_to_interop-interop_link.result _ c.in_ok-exif.ensures.there c.link_to_interop-interop_link.ensures

pub read_linked-requires-3-clause-named : goal.read_linked-requires-3-clause-named
read_linked-requires-3-clause-named c =
    let b = c.args.source.now.block.now in
    let o = c.args.source.now.order in
    let lm = c.link_to_main-main_link.result in
    let nm = c.link_to_main-main_link.ensures in
    let me = c.requires.read.offset_at in
    names_gps b o c.link_to_gps-gps_link.result _ me _ c.link_to_gps-gps_link.ensures c.requires.read.uses.gps

pub read_linked-requires-4-clause-named : goal.read_linked-requires-4-clause-named
read_linked-requires-4-clause-named c =
    let b = c.args.source.now.block.now in
    let o = c.args.source.now.order in
    let lm = c.link_to_main-main_link.result in
    let nm = c.link_to_main-main_link.ensures in
    let me = c.requires.read.offset_at in
    names_thumb b o c.link_after-thumb_link.result _ me c.link_after-thumb_link.ensures.leads c.link_after-thumb_link.ensures.place

pub returns-in_err-exif-clause-judged : goal.returns-in_err-exif-clause-judged
returns-in_err-exif-clause-judged c = λ taken a.
    let p = err_from_is_err_and c.from_residual.result c.from_residual.ensures.1 in
    let b = c.args.source.now.block.now in
    let o = c.args.source.now.order in
    let lm = c.link_to_main-main_link.result in
    let nm = c.link_to_main-main_link.ensures in
    let me = c.requires.read.offset_at in
    let s1 = dirs_start b o taken lm (main_is b o lm nm) c.args.claimed.now.ranges a in
    rw (p.1, p.2) (dirs_refuse b o taken (Some lm ∷ []) Exif (Interop ∷ Gps ∷ Thumb ∷ []) _ s1 c.in_err-exif.field-0.0
    (c.in_err-exif.ensures.judged s1.now s1.agrees))

pub returns-in_err-interop-clause-judged : goal.returns-in_err-interop-clause-judged
returns-in_err-interop-clause-judged c = λ taken a.
    let p = err_from_is_err_and c.from_residual-in_err-interop.result c.from_residual-in_err-interop.ensures.1 in
    let b = c.args.source.now.block.now in
    let o = c.args.source.now.order in
    let lm = c.link_to_main-main_link.result in
    let nm = c.link_to_main-main_link.ensures in
    let me = c.requires.read.offset_at in
    let ne = names_exif b o c.link_to_exif-exif_link.result _ me _ c.link_to_exif-exif_link.ensures c.requires.read.uses.exif in
    let s1 = dirs_start b o taken lm (main_is b o lm nm) c.args.claimed.now.ranges a in
    let j1 = c.in_ok-exif.ensures.judged s1.now s1.agrees in
    let s2 = dirs_step b o taken (Some lm ∷ []) Exif (Interop ∷ Gps ∷ Thumb ∷ []) _ s1 c.link_to_exif-exif_link.result _ ne j1.0 j1.1.1 in
    rw (p.1, p.2) (dirs_refuse b o taken (c.link_to_exif-exif_link.result ∷ Some lm ∷ []) Interop (Gps ∷ Thumb ∷ []) _ s2
    c.in_err-interop.field-0.0 (c.in_err-interop.ensures.judged s2.now s2.agrees))

pub returns-in_err-gps-clause-judged : goal.returns-in_err-gps-clause-judged
returns-in_err-gps-clause-judged c = λ taken a.
    let p = err_from_is_err_and c.from_residual-in_err-gps.result c.from_residual-in_err-gps.ensures.1 in
    let b = c.args.source.now.block.now in
    let o = c.args.source.now.order in
    let lm = c.link_to_main-main_link.result in
    let nm = c.link_to_main-main_link.ensures in
    let me = c.requires.read.offset_at in
    let ne = names_exif b o c.link_to_exif-exif_link.result _ me _ c.link_to_exif-exif_link.ensures c.requires.read.uses.exif in
    let ni = names_interop b o c.link_to_interop-interop_link.result _ c.in_ok-exif.ensures.there c.link_to_interop-interop_link.ensures in
    let s1 = dirs_start b o taken lm (main_is b o lm nm) c.args.claimed.now.ranges a in
    let j1 = c.in_ok-exif.ensures.judged s1.now s1.agrees in
    let s2 = dirs_step b o taken (Some lm ∷ []) Exif (Interop ∷ Gps ∷ Thumb ∷ []) _ s1 c.link_to_exif-exif_link.result _ ne j1.0 j1.1.1 in
    let j2 = c.in_ok-interop.ensures.judged s2.now s2.agrees in
    let s3 = dirs_step b o taken (c.link_to_exif-exif_link.result ∷ Some lm ∷ []) Interop (Gps ∷ Thumb ∷ []) _ s2
    c.link_to_interop-interop_link.result _ ni j2.0 j2.1.1 in
    rw (p.1, p.2) (dirs_refuse b o taken (c.link_to_interop-interop_link.result ∷ c.link_to_exif-exif_link.result ∷ Some lm ∷ []) Gps
    (Thumb ∷ []) _ s3 c.in_err-gps.field-0.0 (c.in_err-gps.ensures.judged s3.now s3.agrees))

pub returns-in_err-thumb-clause-judged : goal.returns-in_err-thumb-clause-judged
returns-in_err-thumb-clause-judged c = λ taken a.
    let p = err_from_is_err_and c.from_residual-in_err-thumb.result c.from_residual-in_err-thumb.ensures.1 in
    let b = c.args.source.now.block.now in
    let o = c.args.source.now.order in
    let lm = c.link_to_main-main_link.result in
    let nm = c.link_to_main-main_link.ensures in
    let me = c.requires.read.offset_at in
    let ne = names_exif b o c.link_to_exif-exif_link.result _ me _ c.link_to_exif-exif_link.ensures c.requires.read.uses.exif in
    let ni = names_interop b o c.link_to_interop-interop_link.result _ c.in_ok-exif.ensures.there c.link_to_interop-interop_link.ensures in
    let ng = names_gps b o c.link_to_gps-gps_link.result _ me _ c.link_to_gps-gps_link.ensures c.requires.read.uses.gps in
    let s1 = dirs_start b o taken lm (main_is b o lm nm) c.args.claimed.now.ranges a in
    let j1 = c.in_ok-exif.ensures.judged s1.now s1.agrees in
    let s2 = dirs_step b o taken (Some lm ∷ []) Exif (Interop ∷ Gps ∷ Thumb ∷ []) _ s1 c.link_to_exif-exif_link.result _ ne j1.0 j1.1.1 in
    let j2 = c.in_ok-interop.ensures.judged s2.now s2.agrees in
    let s3 = dirs_step b o taken (c.link_to_exif-exif_link.result ∷ Some lm ∷ []) Interop (Gps ∷ Thumb ∷ []) _ s2
    c.link_to_interop-interop_link.result _ ni j2.0 j2.1.1 in
    let j3 = c.in_ok-gps.ensures.judged s3.now s3.agrees in
    let s4 = dirs_step b o taken (c.link_to_interop-interop_link.result ∷ c.link_to_exif-exif_link.result ∷ Some lm ∷ []) Gps (Thumb ∷ [])
    _ s3 c.link_to_gps-gps_link.result _ ng j3.0 j3.1.1 in
    rw (p.1, p.2) (dirs_refuse b o taken (c.link_to_gps-gps_link.result ∷ c.link_to_interop-interop_link.result ∷
    c.link_to_exif-exif_link.result ∷ Some lm ∷ []) Thumb [] _ s4 c.in_err-thumb.field-0.0
    (c.in_err-thumb.ensures.judged s4.now s4.agrees))

pub returns-clause-judged : goal.returns-clause-judged
returns-clause-judged c = λ taken a.
    let b = c.args.source.now.block.now in
    let o = c.args.source.now.order in
    let lm = c.link_to_main-main_link.result in
    let nm = c.link_to_main-main_link.ensures in
    let me = c.requires.read.offset_at in
    let ne = names_exif b o c.link_to_exif-exif_link.result _ me _ c.link_to_exif-exif_link.ensures c.requires.read.uses.exif in
    let ni = names_interop b o c.link_to_interop-interop_link.result _ c.in_ok-exif.ensures.there c.link_to_interop-interop_link.ensures in
    let ng = names_gps b o c.link_to_gps-gps_link.result _ me _ c.link_to_gps-gps_link.ensures c.requires.read.uses.gps in
    let nt = names_thumb b o c.link_after-thumb_link.result _ me c.link_after-thumb_link.ensures.leads
    c.link_after-thumb_link.ensures.place in
    let s1 = dirs_start b o taken lm (main_is b o lm nm) c.args.claimed.now.ranges a in
    let j1 = c.in_ok-exif.ensures.judged s1.now s1.agrees in
    let s2 = dirs_step b o taken (Some lm ∷ []) Exif (Interop ∷ Gps ∷ Thumb ∷ []) _ s1 c.link_to_exif-exif_link.result _ ne j1.0 j1.1.1 in
    let j2 = c.in_ok-interop.ensures.judged s2.now s2.agrees in
    let s3 = dirs_step b o taken (c.link_to_exif-exif_link.result ∷ Some lm ∷ []) Interop (Gps ∷ Thumb ∷ []) _ s2
    c.link_to_interop-interop_link.result _ ni j2.0 j2.1.1 in
    let j3 = c.in_ok-gps.ensures.judged s3.now s3.agrees in
    let s4 = dirs_step b o taken (c.link_to_interop-interop_link.result ∷ c.link_to_exif-exif_link.result ∷ Some lm ∷ []) Gps (Thumb ∷ [])
    _ s3 c.link_to_gps-gps_link.result _ ng j3.0 j3.1.1 in
    let j4 = c.in_ok-thumb.ensures.judged s4.now s4.agrees in
    let s5 = dirs_step b o taken (c.link_to_gps-gps_link.result ∷ c.link_to_interop-interop_link.result ∷ c.link_to_exif-exif_link.result ∷
    Some lm ∷ []) Thumb [] _ s4 c.link_after-thumb_link.result _ nt j4.0 j4.1.1 in (
      dirs_clean b o taken _ _ s5,
      (
        record {
          main = λ keeps. c.main_directory_of-main.ensures.fields ∙ c.requires.read.fields_are keeps;
          exif = j1.1.0;
          interop = j2.1.0;
          gps = j3.1.0;
          thumb = j4.1.0 refl;
          main_placed = c.main_directory_of-main.ensures.at ∙ me;
          main_found = main_directory_found b o c.main_directory_of-main.result c.args.main
              c.main_directory_of-main.ensures.at c.main_directory_of-main.ensures.iptc c.requires.read.uses;
          thumb_read = c.in_ok-thumb.ensures.there;
        },
        dirs_end b o taken _ _ s5,
      ),
    )

pub returns-in_err-exif-clause-asked : goal.returns-in_err-exif-clause-asked
returns-in_err-exif-clause-asked c =
    let a1 = c.in_err-exif.ensures.asked in
    omega arith

pub returns-in_err-exif-clause-below : goal.returns-in_err-exif-clause-below
returns-in_err-exif-clause-below c =
    let a1 = c.in_err-exif.ensures.below in
    omega arith

pub returns-in_err-interop-clause-asked : goal.returns-in_err-interop-clause-asked
returns-in_err-interop-clause-asked c =
    let a1 = c.in_ok-exif.ensures.asked in
    let a2 = c.in_err-interop.ensures.asked in
    omega arith

pub returns-in_err-interop-clause-below : goal.returns-in_err-interop-clause-below
returns-in_err-interop-clause-below c =
    let a1 = c.in_ok-exif.ensures.below in
    let a2 = c.in_err-interop.ensures.below in
    omega arith

pub returns-in_err-gps-clause-asked : goal.returns-in_err-gps-clause-asked
returns-in_err-gps-clause-asked c =
    let a1 = c.in_ok-exif.ensures.asked in
    let a2 = c.in_ok-interop.ensures.asked in
    let a3 = c.in_err-gps.ensures.asked in
    omega arith

pub returns-in_err-gps-clause-below : goal.returns-in_err-gps-clause-below
returns-in_err-gps-clause-below c =
    let a1 = c.in_ok-exif.ensures.below in
    let a2 = c.in_ok-interop.ensures.below in
    let a3 = c.in_err-gps.ensures.below in
    omega arith

pub returns-in_err-thumb-clause-asked : goal.returns-in_err-thumb-clause-asked
returns-in_err-thumb-clause-asked c =
    let a1 = c.in_ok-exif.ensures.asked in
    let a2 = c.in_ok-interop.ensures.asked in
    let a3 = c.in_ok-gps.ensures.asked in
    let a4 = c.in_err-thumb.ensures.asked in
    omega arith

pub returns-in_err-thumb-clause-below : goal.returns-in_err-thumb-clause-below
returns-in_err-thumb-clause-below c =
    let a1 = c.in_ok-exif.ensures.below in
    let a2 = c.in_ok-interop.ensures.below in
    let a3 = c.in_ok-gps.ensures.below in
    let a4 = c.in_err-thumb.ensures.below in
    omega arith

pub returns-clause-asked : goal.returns-clause-asked
returns-clause-asked c =
    let a1 = c.in_ok-exif.ensures.asked in
    let a2 = c.in_ok-interop.ensures.asked in
    let a3 = c.in_ok-gps.ensures.asked in
    let a4 = c.in_ok-thumb.ensures.asked in
    omega arith

pub returns-clause-below : goal.returns-clause-below
returns-clause-below c =
    let a1 = c.in_ok-exif.ensures.below in
    let a2 = c.in_ok-interop.ensures.below in
    let a3 = c.in_ok-gps.ensures.below in
    let a4 = c.in_ok-thumb.ensures.below in
    omega arith
