-- The best rows of a processor, each with its key.
use Rattle.std.specs.Prelude.{ℕ, zero, suc, min, ◌≡◌, Bool, cond, List, get_or, ltb, Option, Some, None}
use Rattle.chain.specs.declared.Job.{Job}
use Rattle.chain.specs.Job.{job_at}
use Rattle.picks.specs.Best.{best}
use Rattle.picks.specs.Pick.{gtb, waits, holds, ready}
pub use Rattle.picks.specs.declared.Best.{Best}
pub use Rattle.picks.specs.declared.Offer.{Offer}

-- row i in place of the best so far, if there is one, where its key comes first
unfoldable pub against : (ℕ → ℕ → Bool) → Option Best → ℕ → ℕ → Option Best
against ahead None i k = Some (record { row = suc i; key = k })
against ahead (Some b) i k = cond (ahead k b.key) (Some (record { row = suc i; key = k })) (Some b)

-- a row with its key; 0 is none
unfoldable pub with_key : (ℕ → ℕ) → ℕ → Option Best
with_key key zero = None
with_key key (suc x) = Some (record { row = suc x; key = key x })

-- the best row with its key
abbrev pub best_of : (ℕ → ℕ → Bool) → (ℕ → Bool) → (ℕ → ℕ) → ℕ → Option Best
best_of ahead test key n = with_key key (best ahead test key n)

-- the best ceiling held, of the first n rows; 64, behind all ranks, if nothing is held
unfoldable pub lowest : (ℕ → Bool) → (ℕ → ℕ) → ℕ → ℕ
lowest test key zero = 64
lowest test key (suc i) = cond (test i) (min (key i) (lowest test key i)) (lowest test key i)

-- what stands for a processor past the last one
abbrev pub no_offer : Offer
no_offer = record { first = None; last = None; stage = None; held = 0 }

-- what a processor has to choose from before any row is looked at
abbrev pub nothing : Offer
nothing = record { first = None; last = None; stage = None; held = 64 }

-- which of the two sections runs, the best not yet begun or the one begun last; a stage only where there is none
unfoldable pub choice : Option Best → Option Best → Option Best → ℕ → ℕ
choice None None None held = 0
choice None None (Some s) held = s.row
choice None (Some l) stage held = l.row
choice (Some f) None stage held = f.row
choice (Some f) (Some l) stage held = cond (ltb f.key held) f.row l.row

module _ (homes ranks tops : List ℕ) (js : List Job) (n : ℕ) where
  -- what processor q has to choose from: the best section not yet begun, the one begun last, the best stage, and the best ceiling held
  pub record Offered (o : Offer) (q : ℕ) : Type 0 where
    pub first_is : o.first ≡ best_of ltb (waits homes ranks tops n js q) (λ i. get_or ranks i 0) n
    pub last_is : o.last ≡ best_of gtb (holds homes ranks tops n js q) (λ i. (job_at js i).begun) n
    pub stage_is : o.stage ≡ best_of ltb (ready homes ranks tops n js q) (λ i. get_or ranks i 0) n
    pub held_is : o.held ≡ lowest (holds homes ranks tops n js q) (λ i. get_or tops i 0) n
