-- The two public functions whose contracts leave something open, and what is settled all the same.
use Prim.Native.Nat.{ℕ, ◌+◌, ◌*◌, ◌<◌}
use Rattle.std.specs.Prelude.{Result, Ok, Err}
use mathlib.Core.Path.{◌≡◌, refl, sym, ◌∙◌, ap, subst}
use mathlib.Core.List.{List}
use mathlib.Core.Logic.{dite}
use native.Mathlib.Omega.{arith}
use native.Mathlib.Decide.{dec_lt}
use lib.ListN.{length}
use Rattle.arrivals.specs.declared.Arrival.{Arrival}
use Rattle.arrivals.specs.Seek.{Seek}
use Rattle.jobs.specs.Numbers.{jobs_in}
use Rattle.chain.specs.declared.Job.{Job}
use Rattle.machine.specs.declared.Chart.{Chart}
use Rattle.machine.specs.declared.TooEarly.{TooEarly}
use Rattle.arrivals.specs.Arrival.{brings}
use Rattle.stretch.specs.Stretch.{steps_from, worst_from, Stretch}
use Rattle.settled.specs.Settled.{Agrees}
use Rattle.machine.specs.contracts.release_rows as release_rows_contract
use Rattle.machine.proofs.release_rows as release_rows_proof
use Rattle.stretch.specs.contracts.stretch as stretch_contract
use Rattle.stretch.proofs.stretch as stretch_proof

-- there is one place where the arrivals from a key on begin
seek_one : (xs : List Arrival) (j k key : ℕ) → Seek xs j key → Seek xs k key → j ≡ k
seek_one xs j k key x y =
    dite (dec_lt j k)
    (λ l. absurd (omega (arith, y.past j l, x.ahead j (omega arith) (omega (arith, y.inside)))))
    (λ l. dite (dec_lt k j) (λ m. absurd (omega (arith, x.past k m, y.ahead k (omega arith) (omega (arith, x.inside))))) (λ m. omega arith))

-- the row with a release that comes too early, n if there is none
abbrev pub late_in : {A : Type 0} → ℕ → Result A TooEarly → ℕ
late_in n (Ok a) = n
late_in n (Err e) = e.row

-- e names the row `late`, and that row is one of n: not if another call says that no release comes too early
abbrev pub Apart : ℕ → ℕ → TooEarly → Type 0
Apart late n e = (e.row ≡ late) × (e.row < n)

not_apart : {late n : ℕ} {e : TooEarly} → late ≡ n → Apart late n e → ⊥
not_apart {late} {n} {e} h k = omega (arith, h, k.0, k.1)

-- What the releases of a tick settle: whether one comes too early, and of which row; if none does, the jobs, and the place that the arrivals have come to. Open are the jobs where one comes too early (the run is over, and nobody reads them), and by which numbers a job is kept that stands for the same.
release_rows_agrees : Agrees release_rows_contract.ended
    (λ κs (jobs, (due, (c, rest))) (x, (js, v)) (y, (ks, w)). (late_in c.now.n x ≡ late_in c.now.n y) × (late_in c.now.n x ≡ c.now.n → (jobs_in js ≡ jobs_in ks) × (x ≡ y)))
    release_rows_proof.Reads.Pre release_rows_proof.Reads.Post
release_rows_agrees κs a (Ok j, v) (Ok k, w) h p q = (refl, λ e. (p.0.1 ∙ sym q.0.1, ap Ok (seek_one _ _ _ _ p.0.3.seek q.0.3.seek)))
release_rows_agrees κs a (Ok j, v) (Err e, w) h p q = absurd (not_apart p.0.0 q.1)
release_rows_agrees κs a (Err e, v) (Ok k, w) h p q = absurd (not_apart q.0.0 p.1)
release_rows_agrees κs a (Err d, v) (Err e, w) h p q = (p.1.0 ∙ sym q.1.0, λ e. absurd (omega (arith, e, p.1.1)))

-- as many ticks from the same jobs on lead to the same
as_many : {c : Chart} {xs : List Arrival} {t : ℕ} {js js₁ js₂ : List Job} {worst worst₁ worst₂ lane₁ lane₂ : List ℕ} {k₁ k₂ next₁ next₂ : ℕ} → k₁ ≡ k₂ → Stretch c xs t js worst k₁ js₁ worst₁ lane₁ → Stretch c xs t js worst k₂ js₂ worst₂ lane₂ → 0 < k₁ → 0 < k₂
    → Seek xs next₁ ((t + k₁) * 64 + 1) → Seek xs next₂ ((t + k₂) * 64 + 1) → (js₁ ≡ js₂) × (worst₁ ≡ worst₂) × (length lane₁ ≡ c.m → length lane₂ ≡ c.m → lane₁ ≡ lane₂) × (next₁ ≡ next₂)
as_many {c} {xs} {t} {js} {worst = worst} {next₁ = next₁} {next₂ = next₂} e p q l m x y = (
  p.jobs ∙ ap (λ (k : ℕ). steps_from c (brings xs) t k js) e ∙ sym q.jobs,
  p.noted ∙ ap (λ (k : ℕ). worst_from c (brings xs) t k js worst) e ∙ sym q.noted,
  (λ a b. p.shown a 0 l ∙ sym (q.shown b 0 m)),
  seek_one xs next₁ next₂ _ x (subst (λ (k : ℕ). Seek xs next₂ ((t + k) * 64 + 1)) (sym e) y),
)

-- What a stretch of ticks settles: the same, and with as many ticks the jobs, the worst responses, the bytes where a lane is lent for them, and the place that the arrivals have come to. Open is how many ticks are taken together.
stretch_agrees : Agrees stretch_contract.ended
    (λ κs (s, (c, rest)) (x, (s₁, (i1, (i2, (i3, (i4, (lane₁, i))))))) (y, (s₂, (j1, (j2, (j3, (j4, (lane₂, j))))))).
    (late_in c.now.n x ≡ late_in c.now.n y)
    × (late_in c.now.n x ≡ c.now.n → x ≡ y → (jobs_in s₁.jobs ≡ jobs_in s₂.jobs) × (s₁.worst ≡ s₂.worst) × (length lane₁ ≡ c.now.m → length lane₂ ≡ c.now.m → lane₁ ≡ lane₂) × (s₁.next ≡ s₂.next)))
    stretch_proof.Reads.Pre stretch_proof.Reads.Post
stretch_agrees κs a (Ok j, v) (Ok k, w) h p q = (
  refl,
  λ l e.
      let count : Result ℕ TooEarly → ℕ = elim [ Ok x ↦ x | Err d ↦ 0 ] in
      as_many (λ i. count (e i)) p.0.1 q.0.1 p.0.2 q.0.2 p.0.5.seek q.0.5.seek,
)
stretch_agrees κs a (Ok j, v) (Err e, w) h p q = absurd (not_apart p.0.0 q.1.0)
stretch_agrees κs a (Err e, v) (Ok k, w) h p q = absurd (not_apart q.0.0 p.1.0)
stretch_agrees κs a (Err d, v) (Err e, w) h p q = (p.1.0.0 ∙ sym q.1.0.0, λ l e. absurd (omega (arith, l, p.1.0.1)))
