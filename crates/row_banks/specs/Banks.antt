-- What one bank holds.
use Rattle.std.specs.Prelude.{ℕ, Bool, true, false, ◌==◌, nat_le}
use Rattle.row_banks.specs.declared.bank.Bank.{Bank}
use Rattle.row_banks.specs.declared.bank.Bank.TheVariants.{Closed, Open}

-- the bank is open for task k
abbrev pub owns : Bank → ℕ → Bool
owns Closed k = false
owns (Open row owner) k = owner == k

-- the bank is open for none of the tasks 0 to 15
abbrev pub vacant : Bank → Bool
vacant Closed = true
vacant (Open row owner) = nat_le 16 owner
