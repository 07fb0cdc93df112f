-- One row: where its job is, tick by tick. Each part is released at its arrival plus its offset, with the part before it ended.
use Prim.Native.Nat.{ℕ, zero, suc, ◌+◌, ◌-◌, ◌*◌, ◌≤◌, ◌<◌}
use mathlib.Core.Path.{◌≡◌, refl, sym, ap, ◌∙◌}
use mathlib.Core.Bool.{Bool, true, false, cond, ◌&&◌}
use mathlib.Core.List.{List}
use mathlib.Core.Logic.{◌⊎◌, inl, inr}
use Rattle.std.specs.Prelude.{Option, Some, None}
use native.Mathlib.Nat.{le_trans}
use native.Mathlib.Decide.{dec_le, ℕ_discrete}
use native.Mathlib.Omega.{arith}
use borrow.Author.Tests.{leb-true, leb-false, le-leb, lt-leb, eqb-true, eq-eqb, ne_eqb}
use lib.ListN.{get_or}
use lib.Dec.{eqb, ltb, leb}
use Rattle.lists.proofs.Tests.{clash}
use Rattle.chain.specs.declared.Place.{Place}
use Rattle.chain.specs.declared.Place.TheVariants.{Idle, Waiting, Running}
use Rattle.chain.specs.declared.Job.{Job}
use Rattle.chain.specs.Job.{is_idle, moved}
use Rattle.chain.specs.Release.{off, starts, enter, wake_at, wake, admit, released, overdue_at, too_soon, late}
use Rattle.chain.specs.Unit.{mark, running, next, unit_of}
use Rattle.chain.proofs.Offsets.{off-suc, off-le}
use Rattle.chain.proofs.Cases.{next_cases, unit_cases}
use Rattle.chain.proofs.Keeps.{mark-le}

-- what is asked of the bounds of row i, its arrivals, its period and its lengths
pub record RowFit (bounds : List ℕ) (i : ℕ) (ar : ℕ → Option (List ℕ)) (period : ℕ) (len : ℕ → ℕ) : Type 0 where
  pub timed : (j : ℕ) → j < 3 → 1 ≤ len j → 1 ≤ get_or bounds (3 * i + j) 0
  pub sum : off bounds i 3 ≤ period
  pub apart : (a b : ℕ) (ls ks : List ℕ) → ar a ≡ Some ls → ar b ≡ Some ks → a < b → a + period ≤ b
  pub lengths : (a : ℕ) (ls : List ℕ) → ar a ≡ Some ls → (j : ℕ) → j < 3 → get_or ls j 0 ≤ len j

-- what is left of part j
unfoldable pub left : Place → ℕ → ℕ
left Idle j = 0
left (Waiting u e) j = 0
left (Running e l) j = cond (eqb e j) l 0

-- of a job that runs, only the running part has something left
pub left_own : (j l : ℕ) → left (Running j l) j ≡ l
unfolding left
left_own j l = rw (eq-eqb j j refl)

left_other : (e l j : ℕ) → (e ≡ j → ⊥) → left (Running e l) j ≡ 0
unfolding left
left_other e l j h = rw (ne_eqb e j h)

-- and what has something left runs
pub left_running : (p : Place) (j : ℕ) → 1 ≤ left p j → (l : ℕ) × (p ≡ Running j l)
unfolding left
left_running Idle j h = absurd (omega arith)
left_running (Waiting u e) j h = absurd (omega arith)
left_running (Running e l) j h = go (eqb e j) refl h
  where
    go : (b : Bool) → eqb e j ≡ b → 1 ≤ cond b l 0 → (k : ℕ) × (Running e l ≡ Running j k)
    go true q k = (l, ap (λ d. Running d l) (eqb-true e j q))
    go false q k = absurd (omega arith)

-- a job that runs no part has nothing left
left_none : (p : Place) → ((j l : ℕ) → p ≡ Running j l → ⊥) → (j : ℕ) → left p j ≡ 0
left_none p h j = elim (dec_le 1 (left p j)) [ yes k ↦ let (l, e) = left_running p j k in absurd (h j l e) | no k ↦ omega arith ]

-- the job in the place p
abbrev in_place : Job → Place → Job
in_place x p = record { place = p; arrived = x.arrived; lens = x.lens; begun = x.begun; ended = x.ended; ran = x.ran }

-- what an arrival brings for part j
unfoldable pub len_in : Option (List ℕ) → ℕ → ℕ
len_in None j = 0
len_in (Some ls) j = get_or ls j 0

module _ (bounds : List ℕ) (i : ℕ) where
  module _ (ar : ℕ → Option (List ℕ)) where
    -- what is released of part j in tick t: a function of the arrivals alone
    unfoldable pub new : ℕ → ℕ → ℕ
    new j t = cond (leb (off bounds i j) t) (len_in (ar (t - off bounds i j)) j) 0

    -- the job that arrives at a releases its part j once the offset of the part has passed,
    pub new_at_lem : (j a t : ℕ) (ls : List ℕ) → ar a ≡ Some ls → a + off bounds i j ≡ t → new j t ≡ get_or ls j 0
    unfolding new len_in
    new_at_lem j a t ls e q =
        let z : t - off bounds i j ≡ a = omega arith in
        rw (le-leb (off bounds i j) t (omega arith), z, e)

    -- and nothing else is released
    pub data New (j t : ℕ) : Type 0 where
      nothing : new j t ≡ 0 → New j t
      something : (a : ℕ) (ls : List ℕ) → ar a ≡ Some ls → a + off bounds i j ≡ t → new j t ≡ get_or ls j 0 → New j t

    -- one of the two is so
    pub new? : (j t : ℕ) → New j t
    unfolding new len_in
    new? j t = go (leb (off bounds i j) t) refl (ar (t - off bounds i j)) refl
      where
        go : (b : Bool) → leb (off bounds i j) t ≡ b → (o : Option (List ℕ)) → ar (t - off bounds i j) ≡ o → New j t
        go false e o q = nothing (rw e)
        go true e None q = nothing (rw (e, q))
        go true e (Some ls) q = something (t - off bounds i j) ls q (omega (arith, leb-true (off bounds i j) t e)) (rw (e, q))

    -- nothing of part j is released in tick t, if the job that would release it there has none of it
    new_none : (j t : ℕ) → ((a : ℕ) (ls : List ℕ) → ar a ≡ Some ls → a + off bounds i j ≡ t → get_or ls j 0 ≡ 0) → new j t ≡ 0
    new_none j t h = elim (new? j t) [ nothing e ↦ e | something a ls e q r ↦ r ∙ h a ls e q ]

    -- the job is of the last arrival before tick t
    abbrev Last : ℕ → ℕ → Type 0
    Last t a = (b : ℕ) (ks : List ℕ) → ar b ≡ Some ks → b < t → b ≤ a

    -- the job of the last arrival, before tick t
    pub record Live (t : ℕ) (x : Job) : Type 0 where
      pub came : ar x.arrived ≡ Some x.lens
      pub past : x.arrived < t
      pub last : Last t x.arrived

    -- an idle task: every part of every job is past
    pub record IsIdle (t : ℕ) (x : Job) : Type 0 where
      pub unbegun : x.begun ≡ 0
      pub last : Last t x.arrived
      pub all_past : (a : ℕ) (ls : List ℕ) → ar a ≡ Some ls → a < t → (j : ℕ) → j < 3 → a + off bounds i j < t

    -- a task that waits until u for part j
    pub record IsWaiting (t : ℕ) (x : Job) (u j : ℕ) : Type 0 where
      pub live : Live t x
      pub unbegun : x.begun ≡ 0
      pub until : u ≡ x.arrived + off bounds i j
      pub ahead : t ≤ u
      pub inside : j < 3
      pub before : (e : ℕ) → e < j → x.arrived + off bounds i e < t

    -- a task that runs part j, with l ticks left
    pub record IsRunning (t : ℕ) (x : Job) (j l : ℕ) : Type 0 where
      pub live : Live t x
      pub since : x.arrived + off bounds i j < t
      pub inside : j < 3
      pub some_left : 1 ≤ l
      pub at_most : l ≤ get_or x.lens j 0
      pub marked : x.begun ≤ t
      -- a part that is begun has run a unit
      pub spent : 1 ≤ x.begun → l + 1 ≤ get_or x.lens j 0

    -- before the releases of tick t; and, one tick on, once those of the tick before are in
    abbrev pub Fine : ℕ → Job → Place → Type 0
    Fine t x Idle = IsIdle t x
    Fine t x (Waiting u j) = IsWaiting t x u j
    Fine t x (Running j l) = IsRunning t x j l

    -- a running part is within its bound
    abbrev pub Soon : ℕ → ℕ → Place → Type 0
    Soon t a Idle = Unit {0}
    Soon t a (Waiting u j) = Unit {0}
    Soon t a (Running j l) = t < a + off bounds i (suc j)

    -- what the releases of tick t make of the job x
    pub record Released (t : ℕ) (x y : Job) : Type 0 where
      pub fine : Fine (suc t) y y.place
      pub soon : Soon t y.arrived y.place
      pub flow : (j : ℕ) → j < 3 → left y.place j ≡ left x.place j + new j t
      pub begins : (y ≡ x) ⊎ (y.begun ≡ 0)
      pub stays : (j l : ℕ) → x.place ≡ Running j l → y ≡ x
      pub in_time : late bounds i t x (ar t) ≡ false

    -- the place p of a job that has entered its chain, or gone on in it, in tick t: what it has left is what the tick released
    record Entered (t : ℕ) (x : Job) (p : Place) : Type 0 where
      fine : Fine (suc t) x p
      soon : Soon t x.arrived p
      flow : (j : ℕ) → j < 3 → left p j ≡ new j t

    -- a part within its bound is not overdue
    not_overdue : (t a : ℕ) (p : Place) → Soon t a p → overdue_at bounds i t a p ≡ false
    unfolding overdue_at
    not_overdue t a Idle s = refl
    not_overdue t a (Waiting u j) s = refl
    not_overdue t a (Running j l) s = rw (lt-leb (a + off bounds i (suc j)) t s) (go (ltb j 2))
      where
        go : (b : Bool) → (b && false) ≡ false
        go true = refl
        go false = refl

    -- a task that an arrival finds idle does not run
    not_running : (t : ℕ) (x : Job) → is_idle (wake bounds i t x).place ≡ true → (j l : ℕ) → x.place ≡ Running j l → ⊥
    unfolding wake_at is_idle
    not_running t x h j l = go x.place h
      where
        go : (p : Place) → is_idle (wake bounds i t (in_place x p)).place ≡ true → p ≡ Running j l → ⊥
        go Idle h e = clash cc
        go (Waiting u d) h e = clash cc
        go (Running d k) h e = clash cc

    -- whether a job is live is a matter of its arrival alone
    same_live : (t : ℕ) (x y : Job) → y.arrived ≡ x.arrived → y.lens ≡ x.lens → Live t x → Live t y
    same_live t x y a l v = record { came = cc; past = omega arith; last = λ b ks e h. omega (arith, v.last b ks e h) }

    -- what a unit of part j, with l ticks left, makes of it in tick t
    pub record Ran (t : ℕ) (x : Job) (j l : ℕ) (y : Job) : Type 0 where
      pub fine : Fine (suc t) y y.place
      pub own : left y.place j + 1 ≡ l
      pub others : (e : ℕ) → (j ≡ e → ⊥) → left y.place e ≡ 0
      -- the part has ended, and the job is not begun; or it is begun now, or was before
      pub begins : (y.begun ≡ 0) ⊎ ((y.begun ≡ mark t x.begun) × (y.place ≡ Running j (l - 1)))
      pub same : y.arrived ≡ x.arrived

    module _ (period : ℕ) (len : ℕ → ℕ) (fit : RowFit bounds i ar period len) where
      -- all parts of a job come within its period
      pub off_top : (j : ℕ) → j ≤ 3 → off bounds i j ≤ period
      off_top j h = le_trans (off-le bounds i j 3 h) fit.sum

      -- a part that takes time has a bound
      gap : (j a : ℕ) (ls : List ℕ) → j < 3 → ar a ≡ Some ls → 1 ≤ get_or ls j 0 → off bounds i j < off bounds i (suc j)
      gap j a ls hj e p = omega (arith, off-suc bounds i j, fit.timed j hj (omega (arith, fit.lengths a ls e j hj)))

      -- only the last job releases anything: each one before it has come to its end
      new_other : (t : ℕ) (x : Job) → Live (suc t) x → (j : ℕ) → j < 3 → (x.arrived + off bounds i j ≡ t → ⊥) → new j t ≡ 0
      new_other t x v j hj away = new_none j t (λ b ks e q. elim (dec_le 1 (get_or ks j 0)) [ yes p ↦ absurd (earlier b ks e q p) | no z ↦ omega arith ])
        where
          earlier : (b : ℕ) (ks : List ℕ) → ar b ≡ Some ks → b + off bounds i j ≡ t → 1 ≤ get_or ks j 0 → ⊥
          earlier b ks e q p =
              let lt : b < x.arrived = omega (arith, v.last b ks e (omega arith)) in
              omega (arith, fit.apart b x.arrived ks x.lens e v.came lt, gap j b ks hj e p, off_top (suc j) hj)

      -- if part j is still to come, and none of those before it is released, then nothing is
      new_ahead : (t : ℕ) (x : Job) → Live (suc t) x → (j : ℕ) → t < x.arrived + off bounds i j → ((e : ℕ) → e < j → new e t ≡ 0) → (e : ℕ) → e < 3 → new e t ≡ 0
      new_ahead t x v j ahead past e he =
          elim (dec_le (suc e) j) [
            | yes k ↦ past e k
            | no k ↦ new_other t x v e he (λ w. omega (arith, off-le bounds i j e (omega arith)))
          ]

      -- once all parts of the last job are past, all parts of all jobs are
      to_idle : (t : ℕ) (x : Job) → Live t x → x.begun ≡ 0 → ((j : ℕ) → j < 3 → x.arrived + off bounds i j < t) → IsIdle t x
      to_idle t x v z past = record { unbegun = z; last = v.last; all_past = all }
        where
          all : (b : ℕ) (ks : List ℕ) → ar b ≡ Some ks → b < t → (j : ℕ) → j < 3 → b + off bounds i j < t
          all b ks e hb j hj =
              elim (ℕ_discrete b x.arrived) [
                | yes q ↦ omega (arith, past j hj)
                | no q ↦
                    let lt : b < x.arrived = omega (arith, v.last b ks e hb) in
                    omega (arith, fit.apart b x.arrived ks x.lens e v.came lt, off_top j (omega arith))
              ]

      -- a job of the last arrival, of which no part is begun, in tick t
      module _ (t : ℕ) (x : Job) (v : Live (suc t) x) (z : x.begun ≡ 0) where
        -- part e is past, and the tick has released none of it
        abbrev Over : ℕ → Type 0
        Over e = (x.arrived + off bounds i e ≤ t) × (new e t ≡ 0)

        -- it waits for part j,
        enter_waits : (j : ℕ) → j < 3 → t < x.arrived + off bounds i j → ((e : ℕ) → e < j → Over e) → Entered t x (Waiting (x.arrived + off bounds i j) j)
        unfolding left
        enter_waits j hj ahead over =
            record {
              fine = record { live = v; unbegun = z; until = refl; ahead = ahead; inside = hj; before = λ e he. omega (arith, (over e he).0) };
              soon = tt;
              flow = λ e he. sym (new_ahead t x v j ahead (λ d hd. (over d hd).1) e he);
            }

        -- or runs it: the tick has released it, and no other
        enter_runs : (j l : ℕ) → j < 3 → x.arrived + off bounds i j ≡ t → get_or x.lens j 0 ≡ suc l → ((e : ℕ) → e < j → Over e)
            → Entered t x (Running j (suc l))
        enter_runs j l hj due w over =
            record {
              fine =
                  record {
                    live = v;
                    since = omega arith;
                    inside = hj;
                    some_left = omega arith;
                    at_most = omega arith;
                    marked = omega arith;
                    spent = λ b. absurd (omega arith);
                  };
              soon = omega (arith, long);
              flow = λ e he. elim (ℕ_discrete j e) [ yes q ↦ own e q | no q ↦ left_other j (suc l) e q ∙ sym (other e he q) ];
            }
          where
            long : off bounds i j < off bounds i (suc j)
            long = gap j x.arrived x.lens hj v.came (omega arith)

            own : (e : ℕ) → j ≡ e → left (Running j (suc l)) e ≡ new e t
            own e q = rw (← q) (left_own j (suc l) ∙ sym (new_at_lem j x.arrived t x.lens v.came due ∙ w))

            other : (e : ℕ) → e < 3 → (j ≡ e → ⊥) → new e t ≡ 0
            other e he q =
                elim (dec_le (suc e) j) [
                  | yes k ↦ (over e k).1
                  | no k ↦ new_other t x v e he (λ r. omega (arith, long, off-le bounds i (suc j) e (omega arith)))
                ]

        -- from part j on; a part of length 0 is over at once
        enter_ok : (n j : ℕ) → n + j ≡ 3 → t ≤ x.arrived + off bounds i j → ((e : ℕ) → e < j → Over e)
            → Entered t x (enter bounds i x.arrived x.lens t n j)
        unfolding enter starts left
        enter_ok zero j q ahead over =
            record {
              fine = to_idle (suc t) x v z (λ e he. omega (arith, (over e (omega arith)).0));
              soon = tt;
              flow = λ e he. sym (over e (omega arith)).1;
            }
        enter_ok (suc n) j q ahead over =
            go (leb (x.arrived + off bounds i j) t) refl (get_or x.lens j 0) refl (enter_ok n (suc j) (omega arith))
          where
            rest : Place
            rest = enter bounds i x.arrived x.lens t n (suc j)

            go : (b : Bool) → leb (x.arrived + off bounds i j) t ≡ b → (l : ℕ) → get_or x.lens j 0 ≡ l
                → (t ≤ x.arrived + off bounds i (suc j) → ((e : ℕ) → e < suc j → Over e) → Entered t x rest)
                → Entered t x (cond b (starts bounds i j l rest) (Waiting (x.arrived + off bounds i j) j))
            go false b l w ih = enter_waits j (omega arith) (leb-false (x.arrived + off bounds i j) t b) over
            go true b (suc l) w ih = enter_runs j l (omega arith) (omega (arith, leb-true (x.arrived + off bounds i j) t b)) w over
            go true b zero w ih =
                ih (omega (arith, off-suc bounds i j)) (λ e he. elim (ℕ_discrete e j) [ yes r ↦ rw r at_once | no r ↦ over e (omega arith) ])
              where
                at_once : Over j
                at_once =
                    let due : x.arrived + off bounds i j ≤ t = leb-true (x.arrived + off bounds i j) t b in
                    (due, new_at_lem j x.arrived t x.lens v.came (omega arith) ∙ w)

      -- a tick t without an arrival
      module _ (t : ℕ) (quiet : ar t ≡ None) where
        -- what came up to the tick came before it
        came_before : (b : ℕ) (ks : List ℕ) → ar b ≡ Some ks → b < suc t → b < t
        came_before b ks e h = elim (ℕ_discrete b t) [ yes q ↦ clash cc | no q ↦ omega arith ]

        module _ (x : Job) where
          -- the job stays fine where it is, and nothing is released but the part that it waits for
          live_on : Live t x → Live (suc t) x
          live_on v = record { came = v.came; past = omega arith; last = λ b ks e h. v.last b ks e (came_before b ks e h) }

          -- an idle task stays so, and nothing of it is released;
          idle_on : IsIdle t x → IsIdle (suc t) x
          idle_on f =
              record {
                unbegun = f.unbegun;
                last = λ b ks e h. f.last b ks e (came_before b ks e h);
                all_past = λ b ks e h j hj. omega (arith, f.all_past b ks e (came_before b ks e h) j hj);
              }

          idle_new : IsIdle t x → (j : ℕ) → j < 3 → new j t ≡ 0
          idle_new f j hj = new_none j t (λ b ks e q. absurd (omega (arith, f.all_past b ks e (came_before b ks e (omega arith)) j hj)))

          -- one that waits does, up to its tick;
          waiting_on : (u j : ℕ) → IsWaiting t x u j → t < u → IsWaiting (suc t) x u j
          waiting_on u j f ahead =
              record {
                live = live_on f.live;
                unbegun = f.unbegun;
                until = f.until;
                ahead = ahead;
                inside = f.inside;
                before = λ e he. omega (arith, f.before e he);
              }

          -- the parts before the one that is waited for are past,
          waiting_past : (u j : ℕ) → IsWaiting t x u j → (e : ℕ) → e < j → new e t ≡ 0
          waiting_past u j f e he = new_other t x (live_on f.live) e (omega arith) (λ w. omega (arith, f.before e he))

          -- and the others are still to come
          waiting_new : (u j : ℕ) → IsWaiting t x u j → t < u → (e : ℕ) → e < 3 → new e t ≡ 0
          waiting_new u j f ahead = new_ahead t x (live_on f.live) j (omega arith) (waiting_past u j f)

          -- and so does one that runs
          running_on : (j l : ℕ) → IsRunning t x j l → IsRunning (suc t) x j l
          running_on j l f =
              record {
                live = live_on f.live;
                since = omega arith;
                inside = f.inside;
                some_left = f.some_left;
                at_most = f.at_most;
                marked = omega arith;
                spent = f.spent;
              }

          -- the parts up to the running one are past, and those behind it are still to come
          running_new : (j l : ℕ) → IsRunning t x j l → t < x.arrived + off bounds i (suc j) → (e : ℕ) → e < 3 → new e t ≡ 0
          running_new j l f s =
              let v : Live (suc t) x = live_on f.live in
              new_ahead t x v (suc j) s (λ e he. new_other t x v e (omega arith) (λ w. omega (arith, off-le bounds i e j (omega arith))))

      -- the releases of a tick leave the job as it is,
      stays_on : (t : ℕ) (x : Job) → ar t ≡ None → wake bounds i t x ≡ x → Fine (suc t) x x.place → Soon t x.arrived x.place
          → ((j : ℕ) → j < 3 → new j t ≡ 0) → Released t x (released bounds i t x None)
      unfolding admit late too_soon
      stays_on t x quiet w f s n =
          rw w
          (record {
            fine = f;
            soon = s;
            flow = λ j hj. omega (arith, n j hj);
            begins = inl refl;
            stays = λ j l q. refl;
            in_time = rw (quiet, w) (not_overdue t x.arrived x.place s);
          })

      -- or a job that does not run becomes y, of which nothing is begun
      enters_on : (t : ℕ) (x y : Job) (o : Option (List ℕ)) → ar t ≡ o → released bounds i t x o ≡ y → too_soon bounds i (wake bounds i t x) o ≡ false
          → ((j l : ℕ) → x.place ≡ Running j l → ⊥) → y.begun ≡ 0 → Entered t y y.place → Released t x (released bounds i t x o)
      unfolding late
      enters_on t x y o e r free rests z en =
          rw r
          (record {
            fine = en.fine;
            soon = en.soon;
            flow = λ j hj. omega (arith, en.flow j hj, left_none x.place rests j);
            begins = inr z;
            stays = λ j l q. absurd (rests j l q);
            in_time = rw (e, free, r) (not_overdue t y.arrived y.place en.soon);
          })

      -- a job arrives, and its task is idle
      arrives : (t : ℕ) (x : Job) (ls : List ℕ) → ar t ≡ Some ls → is_idle (wake bounds i t x).place ≡ true → Released t x (released bounds i t x (Some ls))
      unfolding admit moved too_soon
      arrives t x ls e h =
          let y : Job = released bounds i t x (Some ls) in
          let v : Live (suc t) y = record { came = e; past = omega arith; last = λ b ks eb hb. omega arith } in
          enters_on t x y (Some ls) e refl (rw h) (not_running t x h) refl
          (enter_ok t y v refl 3 0 refl (omega arith) (λ d hd. absurd (omega arith)))

      -- the part that is waited for is due
      wakes : (t : ℕ) (x : Job) (u j : ℕ) → ar t ≡ None → x.place ≡ Waiting u j → IsWaiting t x u j → u ≤ t → Released t x (released bounds i t x None)
      unfolding wake_at admit moved too_soon
      wakes t x u j quiet at f due =
          let y : Job = moved x (enter bounds i x.arrived x.lens t (3 - j) j) in
          let v : Live (suc t) y = same_live (suc t) x y refl refl (live_on t quiet x f.live) in
          let over : (e : ℕ) → e < j → (x.arrived + off bounds i e ≤ t) × (new e t ≡ 0) = λ e he. (omega (arith, f.before e he), waiting_past t quiet x u j f e he) in
          enters_on t x y None quiet (ap (wake_at bounds i t x) at ∙ rw (le-leb u t due)) refl
          (λ d l q. clash cc) refl
          (enter_ok t y v refl (3 - j) j (omega arith) (omega arith) over)

      -- where the period is over, the parts from j on are due and of length 0
      enter_idle : (t a : ℕ) (ls : List ℕ) → ar a ≡ Some ls → a + period ≤ t → (n j : ℕ) → n + j ≡ 3 → t ≤ a + off bounds i j
          → enter bounds i a ls t n j ≡ Idle
      unfolding enter starts
      enter_idle t a ls e far zero j q ahead = refl
      enter_idle t a ls e far (suc n) j q ahead =
          rw (le-leb (a + off bounds i j) t (omega (arith, off_top j (omega arith))))
          (go (get_or ls j 0) refl (enter_idle t a ls e far n (suc j) (omega arith)))
        where
          go : (l : ℕ) → get_or ls j 0 ≡ l → (t ≤ a + off bounds i (suc j) → enter bounds i a ls t n (suc j) ≡ Idle)
              → starts bounds i j l (enter bounds i a ls t n (suc j)) ≡ Idle
          go zero w ih = ih (omega (arith, off-suc bounds i j))
          go (suc l) w ih = absurd (omega (arith, gap j a ls (omega arith) e (omega arith), off_top (suc j) (omega arith)))

      -- so an arrival finds idle a task that has been waiting
      idle_again : (t : ℕ) (x : Job) (u j : ℕ) (ls : List ℕ) → ar t ≡ Some ls → IsWaiting t x u j
          → is_idle (wake_at bounds i t x (Waiting u j)).place ≡ true
      unfolding wake_at moved is_idle
      idle_again t x u j ls e f =
          let far : x.arrived + period ≤ t = fit.apart x.arrived t x.lens ls f.live.came e f.live.past in
          rw (
            le-leb u t (omega (arith, off_top j (omega arith))),
            enter_idle t x.arrived x.lens f.live.came far (3 - j) j (omega arith) (omega arith),
          )

      -- one place after the other, without an arrival and with one: a job that runs sees none, as its period is not over
      by_place : (t : ℕ) (x : Job) (p : Place) (o : Option (List ℕ)) → ar t ≡ o → Fine t (in_place x p) p → Soon t x.arrived p
          → Released t (in_place x p) (released bounds i t (in_place x p) o)
      unfolding wake_at is_idle
      by_place t x Idle None e f s =
          let y : Job = in_place x Idle in
          stays_on t y e refl (idle_on t e y f) tt (idle_new t e y f)
      by_place t x Idle (Some ls) e f s = arrives t (in_place x Idle) ls e refl
      by_place t x (Waiting u j) None e f s =
          let y : Job = in_place x (Waiting u j) in
          elim (dec_le u t) [
            | yes h ↦ wakes t y u j e refl f h
            | no h ↦ stays_on t y e (rw (lt-leb u t (omega arith))) (waiting_on t e y u j f (omega arith)) tt (waiting_new t e y u j f (omega arith))
          ]
      by_place t x (Waiting u j) (Some ls) e f s =
          let y : Job = in_place x (Waiting u j) in
          arrives t y ls e (idle_again t y u j ls e f)
      by_place t x (Running j l) None e f s =
          let y : Job = in_place x (Running j l) in
          stays_on t y e refl (running_on t e y j l f) s (running_new t e y j l f s)
      by_place t x (Running j l) (Some ls) e f s =
          absurd (omega (arith, fit.apart x.arrived t x.lens ls f.live.came e f.live.past, off_top (suc j) f.inside))

      -- the releases of a tick find every part before ended, and take the job on
      pub released_ok : (t : ℕ) (x : Job) → Fine t x x.place → Soon t x.arrived x.place → Released t x (released bounds i t x (ar t))
      released_ok t x f s = by_place t x x.place (ar t) refl f s

      -- a unit that is not the last of its part leaves one less,
      unit_on : (t : ℕ) (x : Job) (j l : ℕ) → IsRunning (suc t) x j l → 1 < l → Ran t x j l (running t x (Running j (l - 1)))
      unit_on t x j l f h =
          record {
            fine =
                record {
                  live = same_live (suc t) x (running t x (Running j (l - 1))) refl refl f.live;
                  since = f.since;
                  inside = f.inside;
                  some_left = omega arith;
                  at_most = omega arith;
                  marked = mark-le t x.begun f.marked;
                  spent = λ b. omega arith;
                };
            own = omega (arith, left_own j (l - 1));
            others = λ e d. left_other j (l - 1) e d;
            begins = inr (refl, refl);
            same = refl;
          }

      -- and the last one ends the part: the job waits for the next one, or all its parts are past
      unit_last : (t : ℕ) (x : Job) (j l : ℕ) → IsRunning (suc t) x j l → t < x.arrived + off bounds i (suc j) → l ≤ 1
          → Ran t x j l (moved (running t x (next bounds i x.arrived j)) (next bounds i x.arrived j))
      unfolding moved left
      unit_last t x j l f s h =
          next_cases bounds i (λ p. Ran t x j l (after p)) x.arrived j
          (λ k. ends (Waiting _ (suc j)) (λ e. refl) (waits _ (omega arith) k)) (λ k. ends Idle (λ e. refl) (rests k))
        where
          after : Place → Job
          after p = moved (running t x p) p

          live : (p : Place) → Live (suc t) (after p)
          live p = same_live (suc t) x (after p) refl refl f.live

          past : (e : ℕ) → e ≤ j → x.arrived + off bounds i e < suc t
          past e k = omega (arith, off-le bounds i e j k)

          waits : (u : ℕ) → u ≡ x.arrived + off bounds i (suc j) → j < 2 → Fine (suc t) (after (Waiting u (suc j))) (Waiting u (suc j))
          waits u q k = record { live = live _; unbegun = refl; until = q; ahead = omega (arith, q, s); inside = omega arith; before = λ e he. past e (omega arith) }

          rests : 2 ≤ j → Fine (suc t) (after Idle) Idle
          rests k = to_idle (suc t) (after Idle) (live Idle) refl (λ e he. past e (omega arith))

          ends : (p : Place) → ((e : ℕ) → left p e ≡ 0) → Fine (suc t) (after p) p → Ran t x j l (after p)
          ends p none_left g = record { fine = g; own = omega (arith, none_left j); others = λ e d. none_left e; begins = inl refl; same = refl }

      -- so a unit of a part that is within its bound leaves the job fine
      pub unit_ok : (t : ℕ) (x : Job) (j l : ℕ) → IsRunning (suc t) x j l → t < x.arrived + off bounds i (suc j) → Ran t x j l (unit_of bounds i t x j l)
      unit_ok t x j l f s = unit_cases bounds i t (Ran t x j l) x j l (unit_on t x j l f) (unit_last t x j l f s)
