-- What the calls do to one way.
use Rattle.std.specs.Prelude.{ℕ, ◌-◌, min, Bool, true, false, cond, ◌==◌, nat_le, Some, None, Option}
use Rattle.slow_board.specs.declared.slot.Slot.{Slot}

-- a clean way whose scrub takes one call and so many further ones
abbrev pub fresh : ℕ → Slot
fresh extra = record { extra = extra; more = extra; owner = None }

-- the way once the task has run there: its scrub takes all its calls again
abbrev pub entered : Slot → ℕ → Slot
entered x task = record { extra = x.extra; more = x.extra; owner = Some task }

-- the task is the owner
abbrev pub owned_by : Option ℕ → ℕ → Bool
owned_by None k = false
owned_by (Some owner) k = owner == k

-- the owner is none of the tasks 0 to 15
abbrev pub ownerless : Option ℕ → Bool
ownerless None = true
ownerless (Some owner) = nat_le 16 owner

-- the way holds no trace
abbrev pub bare : Slot → Bool
bare x = ownerless x.owner

-- the scrub calls after the next one until the way is done
abbrev pub calls : Slot → ℕ
calls x = min x.more x.extra

-- the way after one scrub call
abbrev pub lessened : Slot → Slot
lessened x = cond (calls x == 0) (fresh x.extra) (record { extra = x.extra; more = calls x - 1; owner = x.owner })
