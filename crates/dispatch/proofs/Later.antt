-- The records and budgets that a tick leaves.
use Rattle.std.proofs.Common.{◌≡◌, ℕ, zero, suc, ◌+◌, ◌<◌, false, cond, not, ◌&&◌, eqb, List, length, get_or, set, replicate, sym, ap, ◌∙◌, subst, inl, inr, arith, get_or-set_other, get_or-set_same}
use Rattle.std.proofs.lemmas.Bool.Decides.{eqb_tells}
use Rattle.sets.specs.Sets.{has, TaskSet}
use Rattle.sets.proofs.Members.{member-zero}
use Rattle.runs.specs.Calls.{put}
use Rattle.dispatch.specs.declared.dispatcher.Job.{Job}
use Rattle.dispatch.specs.View.{job_at, record_at}

-- a loop that writes an array place by place: what holds of the places below and of the new value holds of one place more
pub wrote-below : {T : Type 0} (xs : List T) (at : ℕ) (v z : T) (P : ℕ → T → Type 0) → at < length xs → P at v
    → ((k : ℕ) → k < at → P k (get_or xs k z)) → (k : ℕ) → k < at + 1 → P k (get_or (set xs at v) k z)
wrote-below xs at v z P l here below k m = elim (eqb_tells k at) [
  | inl e ↦ subst (λ (i : ℕ). P i (get_or (set xs at v) i z)) (sym e.1) (subst (P at) (sym (get_or-set_same xs at v z l)) here)
  | inr e ↦ subst (P k) (sym (get_or-set_other xs at k v z e.1)) (below k (omega (arith, e.1)))
]

-- a new job in one place
pub job-put : (f : Job → ℕ) (jobs : List Job) (j : ℕ) (v : Job) → j < length jobs
    → (k : ℕ) → f (job_at (set jobs j v) k) ≡ put (λ i. f (job_at jobs i)) j (f v) k
job-put f jobs j v l k = elim (eqb_tells k j) [
  | inl e ↦ ap (λ i. f (job_at (set jobs j v) i)) e.1 ∙ ap f (get_or-set_same jobs j v (record { age = 0; left = 0 }) l) ∙ ap (λ b. cond b (f v) (f (job_at jobs k))) (sym e.0)
  | inr e ↦ ap f (get_or-set_other jobs j k v (record { age = 0; left = 0 }) e.1) ∙ ap (λ b. cond b (f v) (f (job_at jobs k))) (sym e.0)
]

-- what stood there, put there again
pub put-same : (f : ℕ → ℕ) (j k : ℕ) → put f j (f j) k ≡ f k
put-same f j k = elim (eqb_tells k j) [
  | inl e ↦ ap (λ b. cond b (f j) (f k)) e.0 ∙ ap f (sym e.1)
  | inr e ↦ ap (λ b. cond b (f j) (f k)) e.0
]

-- a way whose record is emptied, and every other as it was
pub record-emptied : (xs : List TaskSet) (w : ℕ) (s : TaskSet) → w < length xs → ((k : ℕ) → has s k ≡ false)
    → (v k : ℕ) → record_at (set xs w s) v k ≡ (record_at xs v k && not (eqb v w))
record-emptied xs w s l h v k = elim (eqb_tells v w) [
  | inl e ↦
      let new : record_at (set xs w s) v k ≡ has s k = ap (λ i. record_at (set xs w s) i k) e.1 ∙ ap (λ x. has x k) (get_or-set_same xs w s (record { bits = 0 }) l) in
      grind (arith, h k, e.0)
  | inr e ↦
      let same : record_at (set xs w s) v k ≡ record_at xs v k = ap (λ x. has x k) (get_or-set_other xs w v s (record { bits = 0 }) e.1) in
      grind (arith, e.0)
]

-- the records of a fresh dispatcher
pub nothing-recorded : (e : TaskSet) → ((k : ℕ) → has e k ≡ false) → (n w k : ℕ) → record_at (replicate n e) w k ≡ false
unfolding has
nothing-recorded e h zero w k = let z = member-zero k in grind arith
nothing-recorded e h (suc n) zero k = h k
nothing-recorded e h (suc n) (suc w) k = nothing-recorded e h n w k
