-- What the loops over rows and processors do, one turn after the other.
use Prim.Native.Nat.{ℕ, zero, suc, ◌+◌, ◌≤◌, ◌<◌}
use mathlib.Core.Path.{◌≡◌, refl, ◌∙◌, ap}
use mathlib.Core.List.{List, ◌++◌, append_assoc, append-nil}
use native.Mathlib.Omega.{arith}
use native.Mathlib.Numerals.{add-one}
use native.Mathlib.Nat.{add-zero}
use lib.ListN.{length, get_or, drop, set}
use lib.Seq.{set_at, drop-cons, drop-length, get_or-drop, get_or-append-add}
use Rattle.lists.specs.Tab.{tab}
use Rattle.lists.proofs.Tab.{length-tab}
use Rattle.chain.specs.declared.Job.{Job}
use Rattle.chain.specs.Job.{job_at}
use Rattle.machine.specs.Tick.{byte_of}
use Rattle.lists.specs.Total.{total}
use Rattle.chain.specs.Owed.{owes}
use Rattle.machine.specs.Counts.{Tally, tally_of}

-- one job more is counted
abbrev pub counted : Tally → Job → Tally
counted t x = record { jobs = t.jobs + x.ended; run = t.run + x.ran; owed = t.owed + owes x.lens x.place }

pub tally_more : (js : List Job) (i : ℕ) (x : Job) (t : Tally) → x ≡ job_at js i → t ≡ tally_of i js → counted t x ≡ tally_of (i + 1) js
unfolding tally_of total
tally_more js i x t e f = rw (e, f, add-one i) refl

-- the byte of a processor that runs nothing
pub byte_none : (js : List Job) (row : ℕ) → row ≤ 0 → 0 ≡ byte_of js row
unfolding byte_of
byte_none js zero h = refl
byte_none js (suc i) h = absurd (omega arith)

-- a list whose first k places are written anew
module _ {A : Type 0} (f : ℕ → A) (old : List A) (k : ℕ) (now : List A) (e : now ≡ tab k f ++ drop k old) where
  -- the next place is as it was
  pub get_or-next : (d : A) → get_or now k d ≡ get_or old k d
  get_or-next d =
      let s : k ≡ length (tab k f) + 0 = omega (arith, length-tab k f) in
      ap (λ (xs : List A). get_or xs k d) e
      ∙ ap (λ (i : ℕ). get_or (tab k f ++ drop k old) i d) s
      ∙ get_or-append-add (tab k f) (drop k old) 0 d
      ∙ get_or-drop k old 0 d
      ∙ ap (λ (i : ℕ). get_or old i d) (add-zero k)

  -- it is written
  pub write_next : (d x : A) → k < length old → x ≡ f k → set now k x ≡ tab (k + 1) f ++ drop (k + 1) old
  unfolding tab
  write_next d x h g = rw (e, g, add-one k, drop-cons old k d h, append_assoc) (set_at (tab k f) (get_or old k d) (drop (suc k) old) (f k) k (length-tab k f))

  -- all places are written
  pub all_written : k ≡ length old → now ≡ tab (length old) f
  all_written h = e ∙ rw (h, drop-length old, append-nil)
