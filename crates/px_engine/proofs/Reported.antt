-- The main promise, from the result of normalising two files and the laws of files.
use Rattle.std.proofs.Common.{◌≡◌, ◌≤◌, ◌*◌, ℕ, List, length, sym, refl, ◌∙◌, ap, subst, arith}
use Rattle.px_bytes.specs.Parts.{limit}
use Rattle.px_engine.specs.Files.{Said, Says, normal, block_of}
use Rattle.px_engine.specs.Input.{HasMeaning}
use Rattle.px_engine.specs.Slices.{IsFormOf}
use Rattle.px_engine.specs.Headline.{IsItsOwn, Headline, RunsDecide, ComparingDecides}
use Rattle.px_engine.specs.Laws.{OneMeaningOfFile, FormHasMeaning}
use Rattle.px_engine.specs.lemmas.FileLaws.{own_block}

module _ (one : OneMeaningOfFile) (means : FormHasMeaning) where
  form_means : (s : Said) (n : List ℕ) (f : List ℕ) → IsFormOf f s n → Says n s
  form_means s n f h = subst (λ z. Says z s) (sym h.1) (means s h.0.fits (subst (λ z. length z ≤ limit) h.1 h.2))

  form_has_meaning : (s : Said) (n : List ℕ) (f : List ℕ) → IsFormOf f s n → HasMeaning n s
  form_has_meaning s n f h = record {
    means = form_means s n f h;
    fits = h.0.fits;
    bounded =
        subst (λ z. length (normal s) ≤ 2 * length (block_of z)) (sym h.1) (let e = ap (λ z. length z) (own_block s h.0.fits) in omega
        arith);
  }

  its_own : (s : Said) (n : List ℕ) (f : List ℕ) → IsFormOf f s n → IsItsOwn n s
  its_own s n f h = record {
    means = form_has_meaning s n f h;
    alone = λ t x. one n t s x (form_means s n f h);
    again = λ t x. ap normal (one n t s x (form_means s n f h)) ∙ sym h.1;
  }

  pub headline_of_forms : (f g m n : List ℕ) (s t : Said) → IsFormOf f s m → IsFormOf g t n → Headline f g m n
  headline_of_forms f g m n s t h k = record {
    first = s;
    second = t;
    first_form = h;
    second_form = k;
    first_alone = λ u x. one f u s x h.0.means;
    second_alone = λ u x. one g u t x k.0.means;
    decides = (
      λ e. one n s t (subst (λ z. Says z s) e (form_means s m f h)) (form_means t n g k),
      λ e. h.1 ∙ ap normal e ∙ sym k.1,
    );
    first_again = its_own s m f h;
    second_again = its_own t n g k;
  }

  pub runs_decide : RunsDecide
  runs_decide f g i j old new other_old other_new x y = (
    normal x.0,
    normal y.0,
    x.2,
    y.2,
    headline_of_forms f g (normal x.0) (normal y.0) x.0 y.0 (x.1, refl, subst (λ z. z ≤ limit) x.3 x.4)
        (y.1, refl, subst (λ z. z ≤ limit) y.3 y.4),
  )

pub comparing_decides : ComparingDecides
comparing_decides f g m n same h c =
    let s : c.0 ≡ h.first = h.first_alone c.0 c.2.means in
    let t : c.1 ≡ h.second = h.second_alone c.1 c.3.means in
    (λ e. h.decides.1 (sym s ∙ c.4.0 e ∙ t), λ e. c.4.1 (s ∙ h.decides.0 e ∙ sym t))
