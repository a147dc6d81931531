-- What the row banks mean as a resource.
use Rattle.std.specs.Prelude.{◌≡◌, ℕ, ◌/◌, true, cond, ◌&&◌, ◌==◌, nat_lt, slice_index_or}
use Rattle.sets.specs.Sets.{WaySet}
use Rattle.resource.specs.declared.answer.Progress.{Progress}
use Rattle.resource.specs.Answers.{is_done}
use Rattle.resource.specs.Seen.{Seen, touched}
use Rattle.resource.specs.Meaning.{Meaning}
use Rattle.row_banks.specs.declared.bank.Bank.{Bank}
use Rattle.row_banks.specs.declared.bank.Bank.TheVariants.{Closed, Open}
use Rattle.row_banks.specs.declared.banks.RowBanks.{RowBanks}
use Rattle.row_banks.specs.Banks.{owns}

-- the bank of way w; past the last way there is only a closed one
abbrev pub bank_at : RowBanks → ℕ → Bank
bank_at s w = cond (nat_lt w 8) (slice_index_or s.banks w Closed) Closed

-- eight ways, each of cost 1; a way holds a trace of the task that its bank is open for, and one call closes it
abbrev pub banks_seen : RowBanks → Seen
banks_seen s = record {
  ways = 8;
  cost = λ w. cond (nat_lt w 8) 1 0;
  traces = λ w k. nat_lt k 16 && owns (bank_at s w) k;
  left = λ w. 1;
}

-- one run call: the banks that it bears on are open at the row of 1,024 addresses, for its task; all others stand as they were
abbrev pub Opens : RowBanks → ℕ → WaySet → ℕ → RowBanks → Type 0
Opens s task ways address t = (w : ℕ) → bank_at t w ≡ cond (touched (banks_seen s) task ways w) (Open (address / 1024) task) (bank_at s w)

-- one scrub call: it is done, the way's bank is closed, and all others stand as they were
pub record Closes (s : RowBanks) (way : ℕ) (answer : Progress) (t : RowBanks) : Type 0 where
  pub done : is_done answer ≡ true
  pub banks : (w : ℕ) → bank_at t w ≡ cond (nat_lt w 8 && w == way) Closed (bank_at s w)

-- the row banks as a resource
abbrev pub banks_meaning : Meaning RowBanks
banks_meaning = record { seen = banks_seen; ran = Opens; scrubbed = Closes }
