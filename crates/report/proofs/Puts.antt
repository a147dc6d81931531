-- Bytes put one after another.
use Rattle.std.proofs.Common.{◌≡◌, ℕ, ◌+◌, ◌≤◌, List, [], ◌++◌, length, sym, refl, ap, ◌∙◌, arith, length-append}
use Rattle.std.proofs.lemmas.List.Edits.{paste_none, paste-paste, length-paste}
use Rattle.report.specs.declared.page.Page.{Page}
use Rattle.report.specs.Page.{put}
use Rattle.report.specs.Pages.{Writes}
use lib.Seq.{paste}

pub put-put : (d : List ℕ) (at : ℕ) (s t : List ℕ) → at ≤ length d →
    put (put d at s) (at + length s) t ≡ put d at (s ++ t)
unfolding put
put-put d at s t h =
    paste-paste d at s t (length s) (length t) refl refl h
    ∙ ap (paste d at (s ++ t)) (sym (length-append s t))

pub length-put : (d : List ℕ) (at : ℕ) (s : List ℕ) → at + length s ≤ length d →
    length (put d at s) ≡ length d
unfolding put
length-put d at s h = length-paste d at s (length s) h (omega arith)

-- nothing written
pub Writes-nothing : (p : Page) → Writes p [] p
unfolding put
Writes-nothing p =
    record { same = refl; size = refl; len = omega arith; put_there = paste_none p.buffer.now p.len [] }

-- one piece after another
pub then : {p q r : Page} {s t : List ℕ} → Writes p s q → Writes q t r → Writes p (s ++ t) r
then {p} {q} {r} {s} {t} one two = record {
  same = two.same ∙ one.same;
  size = two.size ∙ one.size;
  len = simp length-append (omega arith);
  put_there =
      two.put_there ∙ ap (λ d. put d q.len t) one.put_there
      ∙ ap (λ n. put (put p.buffer.now p.len s) n t) one.len ∙ put-put p.buffer.now p.len s t p.within;
}
