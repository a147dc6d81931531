use Rattle.std.proofs.Common.{◌≡◌, ℕ, ◌&&◌, ltb, Some, None, Option, sym, refl, ap, ◌∙◌, arith}
use Rattle.std.proofs.lemmas.Bool.Decides.{nat_tests}
use Rattle.resource.specs.Seen.{Seen, clean}
use Rattle.resource.proofs.Clean.{bare-clean, owner-clean}
use Rattle.slow_board.specs.Slots.{owned_by, ownerless, bare}
use Rattle.slow_board.specs.Board.{slot_at, board_seen}
use Rattle.slow_board.proofs.board.SlowBoardResource.is_clean.Goals as goal

-- stated of any way that shows one slot's owner
ownerless-clean : (o : Option ℕ) (x : Seen) (w : ℕ) → ((k : ℕ) → x.traces w k ≡ (ltb k 16 && owned_by o k)) → ownerless o ≡ clean x w
ownerless-clean None x w h = sym (bare-clean x w (λ k. let e = h k in grind (arith, nat_tests)))
ownerless-clean (Some owner) x w h = owner-clean x w owner h

pub returns : goal.returns
returns c =
    let s = c.args.self.now in
    let w = c.args.way in
    c.is_bare.ensures ∙ ap bare c.slot.ensures ∙ ownerless-clean (slot_at s w).owner (board_seen s) w (λ k. refl)
