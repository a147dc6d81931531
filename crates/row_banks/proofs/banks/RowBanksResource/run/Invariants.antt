use Rattle.std.proofs.Common.{◌≡◌, ℕ, ◌/◌, ◌<◌, ◌≤◌, cond}
use Rattle.resource.specs.Seen.{touched}
use Rattle.row_banks.specs.declared.bank.Bank.TheVariants.{Open}
use Rattle.row_banks.specs.Board.{bank_at, banks_seen}
use Rattle.row_banks.proofs.banks.RowBanksResource.run.Given as goal

-- the banks below the loop's way are as the call leaves them, the others as they were
abbrev pub invariant-loop-way : goal.invariant-loop-way
invariant-loop-way l =
    ((w : ℕ) → w < l.way → bank_at l.self w ≡ cond (touched (banks_seen l.initial.self) l.task l.ways w) (Open (l.address / 1024) l.task) (bank_at l.initial.self w))
    × ((w : ℕ) → l.way ≤ w → bank_at l.self w ≡ bank_at l.initial.self w)
