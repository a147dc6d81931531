-- What is written on a page.
use Rattle.std.specs.Prelude.{◌≡◌, ℕ, ◌+◌, ◌≤◌, List, length}
use Rattle.std.specs.Borrow.{MutBor}
use Rattle.report.specs.declared.page.Page.{Page}
use Rattle.report.specs.Page.{put}

-- so many bytes more fit on the page
abbrev pub HasRoom : Page → ℕ → Type 0
HasRoom p n = p.len + n ≤ length p.buffer.now

-- a page over this buffer, as it was lent, with nothing written
pub record IsOver (b : MutBor (List ℕ)) (p : Page) : Type 0 where
  pub same : p.buffer.ghost_name ≡ b.ghost_name
  pub bytes : p.buffer.now ≡ b.now
  pub empty : p.len ≡ 0

-- the page with these bytes more, over the same buffer
pub record Writes (old : Page) (bytes : List ℕ) (new : Page) : Type 0 where
  pub same : new.buffer.ghost_name ≡ old.buffer.ghost_name
  pub size : length new.buffer.now ≡ length old.buffer.now
  pub len : new.len ≡ old.len + length bytes
  pub put_there : new.buffer.now ≡ put old.buffer.now old.len bytes

-- nothing is written yet, and the longest report fits
pub record IsBlank (p : Page) : Type 0 where
  pub empty : p.len ≡ 0
  pub room : HasRoom p 528

-- the page over the same buffer, where what was written is as told of the buffer before, the number of
-- bytes written and the buffer after
pub record Leaves (old : Page) (told : List ℕ → ℕ → List ℕ → Type 0) (new : Page) : Type 0 where
  pub same : new.buffer.ghost_name ≡ old.buffer.ghost_name
  pub told_of : told old.buffer.now new.len new.buffer.now
