-- A bank is vacant where its way is clean.
use Rattle.std.proofs.Common.{◌≡◌, ℕ, ◌&&◌, ltb, sym, refl, arith}
use Rattle.std.proofs.lemmas.Bool.Decides.{nat_tests}
use Rattle.resource.specs.Seen.{Seen, clean}
use Rattle.resource.proofs.Clean.{bare-clean, owner-clean}
use Rattle.row_banks.specs.declared.bank.Bank.{Bank}
use Rattle.row_banks.specs.declared.bank.Bank.TheVariants.{Closed, Open}
use Rattle.row_banks.specs.declared.banks.RowBanks.{RowBanks}
use Rattle.row_banks.specs.Banks.{owns, vacant}
use Rattle.row_banks.specs.Board.{bank_at, banks_seen}

-- stated of any way that shows one bank's owner
vacant-of : (b : Bank) (x : Seen) (w : ℕ) → ((k : ℕ) → x.traces w k ≡ (ltb k 16 && owns b k)) → vacant b ≡ clean x w
vacant-of Closed x w h = sym (bare-clean x w (λ k. let e = h k in grind (arith, nat_tests)))
vacant-of (Open row owner) x w h = owner-clean x w owner h

pub vacant-clean : (s : RowBanks) (w : ℕ) → vacant (bank_at s w) ≡ clean (banks_seen s) w
vacant-clean s w = vacant-of (bank_at s w) (banks_seen s) w (λ k. refl)
