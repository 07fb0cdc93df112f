-- Wrong answers that the contracts of public functions rule out: each line has a call that meets `requires`, and an answer that `ensures` does not allow.
use Prim.Native.Nat.{ℕ, zero, suc, ◌+◌, ◌-◌, ◌*◌, ◌≤◌, ◌<◌, max}
use mathlib.Core.Path.{◌≡◌, refl, ap}
use mathlib.Core.List.{List, [], ◌∷◌, ◌++◌}
use mathlib.Core.Bool.{true, false, cond}
use mathlib.Core.Logic.{dite}
use native.Mathlib.Omega.{arith}
use native.Mathlib.Decide.{dec_lt}
use borrow.Author.Tests.{eqb-false, ne_eqb, lt-ltb, le-ltb}
use Rattle.std.specs.Prelude.{Option, Some, None, is_some}
use lib.Dec.{eqb, eqb-suc-zero}
use lib.ListN.{length, get_or, set, length-append}
use lib.Seq.{sets}
use mir.Syntax.{w64}
use mir.Val.{Fits}
use contract.Lifetimes.{Lfts}
use contract.BorrowLft.{⊑_static}
use denote.Bor.{Bor}
use denote.Param.{number}
use denote.MutBor.{MutBor}
use denote.Triple.Entry.{Args}
use denote.Triple.Clauses.{Ended}
use Rattle.lists.specs.Tab.{tab, joined, blank, filled}
use Rattle.lists.specs.First.{first}
use Rattle.lists.specs.Count.{count}
use Rattle.lists.proofs.Tab.{length-blank, get_or-filled, get_or-rest}
use Rattle.rank.specs.Rank.{rank_of, ranks_of}
use Rattle.rank.specs.Order.{in_rank, in_rows, numbers_to}
use Rattle.table.specs.declared.Table.{Table}
use Rattle.table.specs.Table.{header_number, header_refusal, number_of as refusal_number, ranked, reading_of}
use Rattle.table.specs.Good.{GoodTask, task_at, GoodTable}
use Rattle.table.proofs.Given.{PCP, Q, written}
use Rattle.bounds.specs.Demand.{Term, no_term}
use Rattle.spread.specs.Weight.{used_of, lacks_of, heaviest_of}
use Rattle.plan.specs.declared.Mark.TheVariants.{Stage}
use Rattle.plan.specs.declared.Plan.{Plan}
use Rattle.plan.proofs.Given.{planning}
use Rattle.arrivals.specs.declared.Arrival.{Arrival}
use Rattle.arrivals.specs.declared.flat.Flat.{Flat}
use Rattle.arrivals.specs.Arrival.{is_of, arrival_in, arrivals_of, flat_of}
use Rattle.chain.specs.declared.Place.TheVariants.{Running}
use Rattle.chain.specs.declared.Job.{Job}
use Rattle.chain.specs.Job.{no_job}
use Rattle.chain.specs.Release.{never, off, due_at}
use Rattle.chain.specs.Unit.{mark, unit_of, pushed, push_at}
use Rattle.chain.specs.Owed.{lens_from, owes}
use Rattle.chain.specs.Good.{GoodBounds, part_of, GoodJob}
use Rattle.jobs.specs.Numbers.{code_of, number_of, place_in, numbers_of, job_in, jobs_in}
use Rattle.machine.specs.Start.{start}
use Rattle.machine.specs.Chart.{chart, threes, tops_of, chart_of}
use Rattle.machine.specs.Good.{soonest_of}
use Rattle.machine.specs.Tick.{serve_at, kind_of, byte_of, noted_at}
use Rattle.run.specs.Run.{refused}
use Rattle.run.specs.Answer.{table_answer, run_answer, trace_after}
use Rattle.kieferntuch.specs.Answer.{answer, plan_answer}
use Rattle.lists.specs.contracts.blank as blank_contract
use Rattle.lists.proofs.blank as blank_proof
use Rattle.lists.specs.contracts.smaller as smaller_contract
use Rattle.lists.proofs.smaller as smaller_proof
use Rattle.lists.specs.contracts.store as store_contract
use Rattle.lists.proofs.store as store_proof
use Rattle.rank.specs.contracts.uses as uses_contract
use Rattle.rank.proofs.uses as uses_proof
use Rattle.rank.specs.contracts.in_rank as in_rank_contract
use Rattle.rank.proofs.in_rank as in_rank_proof
use Rattle.rank.specs.contracts.in_rows as in_rows_contract
use Rattle.rank.proofs.in_rows as in_rows_proof
use Rattle.rank.specs.contracts.numbers_to as numbers_to_contract
use Rattle.rank.proofs.numbers_to as numbers_to_proof
use Rattle.table.specs.contracts.refusal_of as refusal_of_contract
use Rattle.table.proofs.refusal_of as refusal_of_proof
use Rattle.bounds.specs.contracts.Lanes.new as new_contract
use Rattle.bounds.proofs.Lanes.new as new_proof
use Rattle.bounds.specs.contracts.Lanes.add as add_contract
use Rattle.bounds.proofs.Lanes.add as add_proof
use Rattle.spread.specs.contracts.used as used_contract
use Rattle.spread.proofs.used as used_proof
use Rattle.spread.specs.contracts.heaviest as heaviest_contract
use Rattle.spread.proofs.heaviest as heaviest_proof
use Rattle.plan.specs.contracts.Mark.number as mark_number_contract
use Rattle.plan.proofs.Mark.number as mark_number_proof
use Rattle.plan.specs.contracts.of_resource as of_resource_contract
use Rattle.plan.proofs.of_resource as of_resource_proof
use Rattle.arrivals.specs.contracts.taken_apart as taken_apart_contract
use Rattle.arrivals.specs.contracts.flat.Flat.new as flat_new_contract
use Rattle.arrivals.proofs.flat.Flat.new as flat_new_proof
use Rattle.arrivals.specs.contracts.brought as brought_contract
use Rattle.arrivals.proofs.brought as brought_proof
use Rattle.chain.specs.contracts.due_of as due_of_contract
use Rattle.chain.proofs.due_of as due_of_proof
use Rattle.chain.specs.contracts.response as response_contract
use Rattle.chain.proofs.response as response_proof
use Rattle.chain.specs.contracts.push as push_contract
use Rattle.chain.proofs.push as push_proof
use Rattle.chain.specs.contracts.owed as owed_contract
use Rattle.chain.proofs.owed as owed_proof
use Rattle.jobs.specs.contracts.job_at as job_at_contract
use Rattle.jobs.proofs.job_at as job_at_proof
use Rattle.jobs.specs.contracts.put_job as put_job_contract
use Rattle.jobs.proofs.put_job as put_job_proof
use Rattle.machine.specs.contracts.State.start as start_contract
use Rattle.machine.proofs.State.start as start_proof
use Rattle.machine.specs.contracts.chart_of as chart_of_contract
use Rattle.machine.proofs.chart_of as chart_of_proof
use Rattle.machine.specs.contracts.soonest as soonest_contract
use Rattle.machine.proofs.soonest as soonest_proof
use Rattle.machine.specs.contracts.serve_job as serve_job_contract
use Rattle.machine.proofs.serve_job as serve_job_proof
use Rattle.machine.specs.contracts.note as note_contract
use Rattle.machine.proofs.note as note_proof
use Rattle.machine.specs.contracts.show as show_contract
use Rattle.machine.proofs.show as show_proof
use Rattle.kieferntuch.specs.contracts.kieferntuch_plan as kieferntuch_plan_contract
use Rattle.kieferntuch.proofs.kieferntuch_plan as kieferntuch_plan_proof
use Rattle.kieferntuch.specs.contracts.kieferntuch_run as kieferntuch_run_contract
use Rattle.settled.specs.Settled.{Requires, Ensures, Given, Allows}
use Rattle.settled.proofs.Records.{apart_asks, apart_says, run_asks, run_says}

-- the call meets `requires`, and `ensures` does not allow it to give this
abbrev RuledOut : (T : Ended) (Pre : Requires T) (Post : Ensures T) (κs : Lfts T.signature.lifetimes) (a : Args T.signature κs) → Given T κs a → Type 0
RuledOut T Pre Post κs a r = Pre κs a × (Allows T Post κs a r → ⊥)

-- two things in which different numbers are seen are not the same; two lists that differ at place k
seen : {A : Type 0} {x y : A} (f : A → ℕ) → eqb (f x) (f y) ≡ false → x ≡ y → ⊥
seen {x} {y} f d e = eqb-false (f x) (f y) d (ap f e)

at : {xs ys : List ℕ} (k : ℕ) → eqb (get_or xs k 0) (get_or ys k 0) ≡ false → xs ≡ ys → ⊥
at k = seen (λ r. get_or r k 0)

-- a shared reference to block b, in which x lies, and one that may write
abbrev lent : {X : Type 0} → ℕ → X → Bor X
lent b x = record { ref_ptr = (b, 0); now = x }

abbrev lent_mut : {X : Type 0} → ℕ → X → MutBor X
lent_mut b x = record { ref_ptr = (b, 0); ghost_name = b; now = x }

-- an array of `size` places that begins with these numbers, and has 0 behind them
abbrev array : ℕ → List ℕ → List ℕ
array size xs = xs ++ blank (size - length xs) 0

-- where they fit in, it has that length
length_array : (size : ℕ) (xs : List ℕ) → length xs ≤ size → length (array size xs) ≡ size
length_array size xs h = simp length-append (omega (arith, length-blank {A = ℕ} (size - length xs) 0))

-- no number of a list is above the highest
abbrev highest : List ℕ → ℕ
highest [] = 0
highest (x ∷ xs) = max x (highest xs)

below : (xs : List ℕ) (k : ℕ) → get_or xs k 0 ≤ highest xs
below [] k = omega arith
below (x ∷ xs) zero = omega arith
below (x ∷ xs) (suc k) = omega (arith, below xs k)

-- ---- lists

-- `blank 0` with n places is not this list
abbrev AtBlank : (n : ℕ) (κs : Lfts (blank_contract.ended (number n)).signature.lifetimes) → List ℕ → Type 0
AtBlank n κs xs = (fits : Fits w64 n) → RuledOut (blank_contract.ended (number n)) (blank_proof.Reads.Pre n fits) (blank_proof.Reads.Post n fits) κs (0, tt) (xs, _)

-- `blank`: another number at each place, of an array that is to hold 0
module _ (κs : _) (x : ℕ) where
  jobs_of_another_number : AtBlank 576 κs (blank 576 (suc x))
  unfolding blank
  jobs_of_another_number fits = ((⊑_static κs.0, omega arith), at 0 (eqb-suc-zero x))

  threes_of_another_number : AtBlank 192 κs (blank 192 (suc x))
  unfolding blank
  threes_of_another_number fits = ((⊑_static κs.0, omega arith), at 0 (eqb-suc-zero x))

-- `blank`: the last place left out
module _ (κs : _) where
  jobs_but_the_last : AtBlank 576 κs (set (blank 576 0) 575 1)
  unfolding blank
  jobs_but_the_last fits = ((⊑_static κs.0, omega arith), at 575 refl)

  threes_but_the_last : AtBlank 192 κs (set (blank 192 0) 191 1)
  unfolding blank
  threes_but_the_last fits = ((⊑_static κs.0, omega arith), at 191 refl)

-- `smaller`: the first of two numbers, whichever it is
first_for_smaller : (κs : _) → RuledOut smaller_contract.ended smaller_proof.Reads.Pre smaller_proof.Reads.Post κs (2, (1, tt)) (2, _)
first_for_smaller κs = (tt, seen (λ x. x) refl)

-- `store`: from the front of the buffer on, and not from place `at` on
stored_at_the_front : (κs : _) → RuledOut store_contract.ended store_proof.Reads.Pre store_proof.Reads.Post κs
    (lent_mut 1 (1 ∷ 2 ∷ 3 ∷ []), (1, (lent 2 (7 ∷ []), tt))) (tt, (7 ∷ 2 ∷ 3 ∷ [], _))
stored_at_the_front κs = (omega arith, at 0 refl)

-- ---- rank

-- `uses`: 0, which is none, is taken for a resource
uses_none_as_one : (κs : _) → RuledOut uses_contract.ended uses_proof.Reads.Pre uses_proof.Reads.Post κs (0, (0, tt)) (true, _)
uses_none_as_one κs = (tt, seen (λ b. cond b 1 0) refl)

-- `uses`: a row uses each resource up to the one that it names
uses_up_to_named : (κs : _) → RuledOut uses_contract.ended uses_proof.Reads.Pre uses_proof.Reads.Post κs (2, (1, tt)) (true, _)
uses_up_to_named κs = (tt, seen (λ b. cond b 1 0) refl)

-- three rows, whose ranks are 1, 2, 0, and a column of them
abbrev period : List ℕ
period = array 64 (20 ∷ 30 ∷ 10 ∷ [])

abbrev column : List ℕ
column = array 64 (7 ∷ 8 ∷ 9 ∷ [])

-- `in_rank`: what the way back would give, 8, 9, 7 for 9, 7, 8
rank_order_turned_round : (κs : _) → RuledOut in_rank_contract.ended in_rank_proof.Reads.Pre in_rank_proof.Reads.Post κs
    (lent 1 (ranks_of period 3), (3, (lent 2 column, tt))) (array 64 (8 ∷ 9 ∷ 7 ∷ []), _)
unfolding blank filled tab first count rank_of ranks_of in_rank
rank_order_turned_round κs = ((omega arith, (period, refl)), at 0 refl)

-- `in_rows`: what the way there would give, 9, 7, 8 for 8, 9, 7
row_order_turned_round : (κs : _) → RuledOut in_rows_contract.ended in_rows_proof.Reads.Pre in_rows_proof.Reads.Post κs
    (lent 1 (ranks_of period 3), (3, (lent 2 column, tt))) (array 64 (9 ∷ 7 ∷ 8 ∷ []), _)
unfolding blank filled tab count rank_of ranks_of in_rows
row_order_turned_round κs = ((omega arith, (period, refl)), at 0 refl)

-- `numbers_to`: one number too many
one_number_too_many : (κs : _) (n : ℕ) → n < 64 → RuledOut numbers_to_contract.ended numbers_to_proof.Reads.Pre numbers_to_proof.Reads.Post κs (n, tt) (numbers_to (n + 1), _)
unfolding numbers_to
one_number_too_many κs n h =
    let number : ℕ → ℕ = λ i. i + 1 in
    (omega arith, λ p. omega (arith, ap (λ (r : List ℕ). get_or r n 0) p, get_or-filled 64 0 number (n + 1) n 0 (omega arith), get_or-rest 64 0 number n n 0 (omega arith) h))

-- ---- table

-- `refusal_of`: no bytes pass for a table
no_bytes_pass : (κs : _) → RuledOut refusal_of_contract.ended refusal_of_proof.Reads.Pre refusal_of_proof.Reads.Post κs (lent 1 [], tt) (None, _)
unfolding header_number reading_of
no_bytes_pass κs = (tt, seen (λ o. cond (is_some o) 1 0) refl)

-- ---- bounds

-- the first term of lane 1, of period 10 and length 2
abbrev term : Term
term = record { period = 10; len = 2 }

abbrev first_term : (κs : Lfts (add_contract.ended).signature.lifetimes) → Args (add_contract.ended).signature κs
first_term κs = (lent_mut 1 (record { terms = blank 1088 no_term; count = blank 17 0 }), (1, (term, tt)))

-- `Lanes::add`: the term is stored, and the count of the lane stays
lane_count_kept : (κs : _) → RuledOut add_contract.ended add_proof.Reads.Pre add_proof.Reads.Post κs
    (first_term κs) (tt, (record { terms = set (blank 1088 no_term) 64 term; count = blank 17 0 }, _))
unfolding blank
lane_count_kept κs = ((omega arith, omega arith), λ p. at 1 refl p.1)

-- `Lanes::add`: the term is stored in the lane beside it
term_in_lane_beside : (κs : _) → RuledOut add_contract.ended add_proof.Reads.Pre add_proof.Reads.Post κs
    (first_term κs) (tt, (record { terms = set (blank 1088 no_term) 0 term; count = set (blank 17 0) 1 1 }, _))
unfolding blank
term_in_lane_beside κs = ((omega arith, omega arith), λ p. seen (λ r. (get_or r 64 no_term).period) refl p.0)

-- `Lanes::new` with these terms and counts
abbrev BegunWith : (κs : Lfts (new_contract.ended).signature.lifetimes) → List Term → List ℕ → Type 0
BegunWith κs terms count = RuledOut new_contract.ended new_proof.Reads.Pre new_proof.Reads.Post κs tt (record { terms = terms; count = count }, _)

-- no terms of which one at place k has a period or a length
abbrev NoneAt : (κs : Lfts (new_contract.ended).signature.lifetimes) → ℕ → Type 0
NoneAt κs k = (terms : List Term) (count : List ℕ) (x : ℕ)
    → ((get_or terms k no_term).period ≡ suc x → BegunWith κs terms count) × ((get_or terms k no_term).len ≡ suc x → BegunWith κs terms count)

-- `Lanes::new`: another number at the first place and so at each, as the period or as the length, whatever all else is
lanes_of_another_number : (κs : _) → NoneAt κs 0
unfolding blank
lanes_of_another_number κs terms count x = (
  (λ h. (tt, λ p. seen (λ r. (get_or r 0 no_term).period) (rw h (eqb-suc-zero x)) p.0)),
  (λ h. (tt, λ p. seen (λ r. (get_or r 0 no_term).len) (rw h (eqb-suc-zero x)) p.0)),
)

-- `Lanes::new`: the last place left out, as the period or as the length, whatever all else is
lanes_but_the_last : (κs : _) → NoneAt κs 1087
unfolding blank
lanes_but_the_last κs terms count x = (
  (λ h. (tt, λ p. seen (λ r. (get_or r 1087 no_term).period) (rw h (eqb-suc-zero x)) p.0)),
  (λ h. (tt, λ p. seen (λ r. (get_or r 1087 no_term).len) (rw h (eqb-suc-zero x)) p.0)),
)

-- ---- spread

-- `used`: the highest number of a used resource, 3, and not how many there are
highest_for_count : (κs : _) → RuledOut used_contract.ended used_proof.Reads.Pre used_proof.Reads.Post κs (lent 1 (array 17 (0 ∷ 0 ∷ 0 ∷ 5 ∷ [])), tt) (3, _)
unfolding blank count used_of
highest_for_count κs = (tt, λ p. seen (λ u. u) refl p.0)

-- resource 1 weighs 5, and resource 2 weighs 9
abbrev weight : List ℕ
weight = array 17 (0 ∷ 5 ∷ 9 ∷ [])

-- `heaviest`: the lightest first
lightest_first : (κs : _) → RuledOut heaviest_contract.ended heaviest_proof.Reads.Pre heaviest_proof.Reads.Post κs
    (lent 1 weight, tt) (array 64 (3 ∷ 4 ∷ 5 ∷ 6 ∷ 7 ∷ 8 ∷ 9 ∷ 10 ∷ 11 ∷ 12 ∷ 13 ∷ 14 ∷ 15 ∷ 16 ∷ 1 ∷ 2 ∷ []), _)
unfolding blank filled tab first count rank_of ranks_of in_rank numbers_to lacks_of heaviest_of
lightest_first κs = ((λ r h. omega (arith, below weight r)), at 0 refl)

-- ---- plan

-- `Mark::number`: every mark is 1
stages_marked_1 : (κs : _) → RuledOut mark_number_contract.ended mark_number_proof.Reads.Pre mark_number_proof.Reads.Post κs (Stage, tt) (1, _)
stages_marked_1 κs = (tt, seen (λ x. x) refl)

-- the ceilings of resources 1 and 2, and two rows: the first names no resource, the second resource 2
abbrev ceiling : List ℕ
ceiling = array 17 (64 ∷ 3 ∷ 4 ∷ [])

abbrev resource : List ℕ
resource = array 64 (0 ∷ 2 ∷ [])

-- `of_resource`: the row without a resource gets what resource 1 has
none_gets_first : (κs : _) → RuledOut of_resource_contract.ended of_resource_proof.Reads.Pre of_resource_proof.Reads.Post κs
    (lent 1 ceiling, (lent 2 resource, (2, tt))) (array 64 (3 ∷ 4 ∷ []), _)
unfolding blank filled tab
none_gets_first κs = ((omega arith, λ k h. omega (arith, below resource k)), at 0 refl)

-- `of_resource`: resources are counted from 0
resource_before : (κs : _) → RuledOut of_resource_contract.ended of_resource_proof.Reads.Pre of_resource_proof.Reads.Post κs
    (lent 1 ceiling, (lent 2 resource, (2, tt))) (array 64 (64 ∷ 3 ∷ []), _)
unfolding blank filled tab
resource_before κs = ((omega arith, λ k h. omega (arith, below resource k)), at 1 refl)

-- ---- arrivals

-- `taken_apart`: the row before the tick
row_before_tick : (κs : _) → RuledOut taken_apart_contract.ended apart_asks apart_says κs
    (lent 1 (record { tick = 5; row = 1; len1 = 2; len2 = 3; len3 = 4 } ∷ []), (lent_mut 2 (array 20480 []), tt))
    (tt, (_, (array 20480 (1 ∷ 5 ∷ 2 ∷ 3 ∷ 4 ∷ []), _)))
unfolding blank joined flat_of
row_before_tick κs = (tt, at 0 refl)

-- `count` of two arrivals as numbers: row 1 at tick 5 with 2, 3, 4, and row 2 at tick 6 with 7, 8, 9
abbrev numbers : List ℕ
numbers = array 20480 (5 ∷ 1 ∷ 2 ∷ 3 ∷ 4 ∷ 6 ∷ 2 ∷ 7 ∷ 8 ∷ 9 ∷ [])

abbrev flat : (count : ℕ) → count ≤ 4096 → Flat
flat count few = record { numbers = lent 2 numbers; count = count; few = few }

-- `Flat::new`: a list of two arrivals is too long
no_list_taken : (κs : _) → RuledOut flat_new_contract.ended flat_new_proof.Reads.Pre flat_new_proof.Reads.Post κs (lent 2 numbers, (2, tt)) (None, _)
no_list_taken κs = (tt, λ p. seen (λ b. cond b 1 0) refl p.0)

-- `Flat::new`: one arrival of the two is taken
one_of_two_taken : (κs : _) → RuledOut flat_new_contract.ended flat_new_proof.Reads.Pre flat_new_proof.Reads.Post κs (lent 2 numbers, (2, tt)) (Some (flat 1 (omega arith)), _)
one_of_two_taken κs = (tt, λ p. seen (λ k. k) refl p.1.1)

-- whether something comes, as a number
abbrev there : Option (List ℕ) → ℕ
there None = 0
there (Some lens) = 1

-- the first length of what comes; 0 if nothing does
abbrev length_of : Option (List ℕ) → ℕ
length_of None = 0
length_of (Some lens) = get_or lens 0 0

-- `brought`: an arrival behind the last one comes
comes_behind_the_last : (κs : _) (lens : List ℕ) → RuledOut brought_contract.ended brought_proof.Reads.Pre brought_proof.Reads.Post κs
    (lent 1 (flat 1 (omega arith)), (1, (6, (1, tt)))) (Some lens, _)
comes_behind_the_last κs lens = (omega arith, seen there refl)

-- `brought`: the row is compared, and the tick is not
comes_at_any_tick : (κs : _) (lens : List ℕ) → RuledOut brought_contract.ended brought_proof.Reads.Pre brought_proof.Reads.Post κs
    (lent 1 (flat 2 (omega arith)), (0, (6, (0, tt)))) (Some lens, _)
unfolding tab is_of arrival_in arrivals_of
comes_at_any_tick κs lens = (omega arith, seen there refl)

-- `brought`: the lengths of the next arrival
lens_of_the_next : (κs : _) → RuledOut brought_contract.ended brought_proof.Reads.Pre brought_proof.Reads.Post κs
    (lent 1 (flat 2 (omega arith)), (0, (5, (0, tt)))) (Some (7 ∷ 8 ∷ 9 ∷ []), _)
unfolding tab is_of arrival_in arrivals_of
lens_of_the_next κs = (omega arith, seen length_of refl)

-- `brought`: the lengths of the two stages change places
lens_swapped : (κs : _) → RuledOut brought_contract.ended brought_proof.Reads.Pre brought_proof.Reads.Post κs
    (lent 1 (flat 2 (omega arith)), (0, (5, (0, tt)))) (Some (4 ∷ 3 ∷ 2 ∷ []), _)
unfolding tab is_of arrival_in arrivals_of
lens_swapped κs = (omega arith, seen length_of refl)

-- ---- chain

-- the bounds of row 1 are 5, 6 and 7
abbrev bounds : List ℕ
bounds = array 192 (5 ∷ 6 ∷ 7 ∷ [])

good_bounds : GoodBounds bounds
unfolding blank
good_bounds = record { whole = refl; small = λ k. omega (arith, below bounds k) }

-- a job that arrived at tick 10 with 4, 3 and 2, and runs its stage one: the ticks left, the begun mark, the jobs ended and the units run
abbrev job : ℕ → ℕ → ℕ → ℕ → Job
job left begun ended ran = record { place = Running 0 left; arrived = 10; lens = 4 ∷ 3 ∷ 2 ∷ []; begun = begun; ended = ended; ran = ran }

good_job : {left begun ended ran : ℕ} → GoodJob (job left begun ended ran)
good_job = record { arrived = omega arith; part = omega arith }

-- `due_of`: the tick of the arrival, and not that of the next release
due_at_arrival : (κs : _) → RuledOut due_of_contract.ended due_of_proof.Reads.Pre due_of_proof.Reads.Post κs (lent 1 bounds, (0, (job 3 11 0 1, tt))) (10, _)
unfolding blank off due_at
due_at_arrival κs = ((omega arith, good_bounds, good_job), seen (λ t. t) refl)

-- `response`: that of the section, from the arrival on and not from its release
response_since_arrival : (κs : _) → RuledOut response_contract.ended response_proof.Reads.Pre response_proof.Reads.Post κs (lent 1 bounds, (0, (16, (10, (1, tt))))) (7, _)
unfolding blank off
response_since_arrival κs = ((omega arith, good_bounds, omega arith, omega arith, omega arith), seen (λ t. t) refl)

-- `push`: a part that has run before is marked as begun in this tick
begun_again : (κs : _) → RuledOut push_contract.ended push_proof.Reads.Pre push_proof.Reads.Post κs (job 3 11 0 1, (11, (2, tt))) (job 1 12 0 3, _)
unfolding mark pushed push_at
begun_again κs = ((omega arith, omega arith, λ j l e. let h : 3 ≡ l = cc in omega arith), seen (λ x. x.begun) refl)

-- `owed`: what is left of the running part, without the parts not yet released
only_running_owed : (κs : _) → RuledOut owed_contract.ended owed_proof.Reads.Pre owed_proof.Reads.Post κs (job 3 11 0 1, tt) (3, _)
unfolding lens_from owes
only_running_owed κs = (good_job, λ p. seen (λ u. u) refl p.0)

-- `owed`: the whole of the running part, though a unit of it has run
whole_part_owed : (κs : _) → RuledOut owed_contract.ended owed_proof.Reads.Pre owed_proof.Reads.Post κs (job 3 11 0 1, tt) (9, _)
unfolding lens_from owes
whole_part_owed κs = (good_job, λ p. seen (λ u. u) refl p.0)

-- ---- jobs

-- `job_at`: the begun mark and the jobs ended change places
begun_and_ended_swapped : (κs : _) → RuledOut job_at_contract.ended job_at_proof.Reads.Pre job_at_proof.Reads.Post κs
    (lent 1 (array 576 (4 ∷ 3 ∷ 10 ∷ 4 ∷ 3 ∷ 2 ∷ 11 ∷ 1 ∷ 10 ∷ [])), (0, tt)) (job 3 1 11 10, _)
unfolding blank job_in
begun_and_ended_swapped κs = (omega arith, seen (λ x. x.begun) refl)

-- `put_job`: ten numbers are written, the last of them over the next row's first
next_row_overwritten : (κs : _) → RuledOut put_job_contract.ended put_job_proof.Reads.Pre put_job_proof.Reads.Post κs
    (lent_mut 1 (blank 576 1), (0, (no_job, tt))) (tt, (sets (blank 576 1) 0 (blank 10 0), _))
unfolding blank code_of number_of numbers_of
next_row_overwritten κs = ((omega arith, omega arith), at 9 refl)

-- ---- machine

-- `State::start`: a release is due in tick 0
due_at_the_start : (κs : _) → RuledOut start_contract.ended start_proof.Reads.Pre start_proof.Reads.Post κs tt (record start { due = blank 64 0 }, _)
unfolding blank
due_at_the_start κs = (tt, seen (λ s. get_or s.due 0 0) refl)

-- `State::start`: the first arrival has come already
first_arrival_skipped : (κs : _) → RuledOut start_contract.ended start_proof.Reads.Pre start_proof.Reads.Post κs tt (record start { next = 1 }, _)
first_arrival_skipped κs = (tt, seen (λ s. s.next) refl)

-- a table of one row, (10, 1, 2, 1, 1), and a plan of it: the section on processor 1, the stages on processor 2
abbrev row : ℕ → List ℕ
row x = array 64 (x ∷ [])

abbrev table : Table
table = ranked 1 2 false (row 10) (row 1) (row 2) (row 1) (row 1)

abbrev plan : Plan
plan = record { s = 1; serves = array 17 (0 ∷ 1 ∷ []); processor = row 2; d1 = row 1; section = row 2; d2 = row 1 }

good_table : GoodTable table
unfolding ranked
good_table = record { rows = (omega arith, omega arith); processors = (omega arith, omega arith); tasks = tasks; ranks = refl; ceilings = refl }
  where
    tasks : (k : ℕ) → k < 1 → GoodTask (task_at table k)
    tasks zero h = record { period = (omega arith, omega arith); resource = omega arith; agree = refl; sum = (omega arith, omega arith) }
    tasks (suc k) h = absurd (omega arith)

-- `chart_of`: the section on the processor of the stages
section_among_stages : (κs : _) → RuledOut chart_of_contract.ended chart_of_proof.Reads.Pre chart_of_proof.Reads.Post κs
    (lent 1 table, (lent 2 plan, tt)) (chart 1 2 (array 192 (1 ∷ 2 ∷ 1 ∷ [])) (array 192 (2 ∷ 2 ∷ 2 ∷ [])) table.rank (tops_of table), _)
unfolding blank filled tab joined ranked threes chart_of
section_among_stages κs = (good_table, seen (λ c. get_or c.homes 1 0) refl)

-- `soonest`: the latest of the ticks
latest_for_soonest : (κs : _) → RuledOut soonest_contract.ended soonest_proof.Reads.Pre soonest_proof.Reads.Post κs (lent 1 (array 64 (5 ∷ 7 ∷ [])), (2, tt)) (7, _)
unfolding blank soonest_of
latest_for_soonest κs = (omega arith, seen (λ t. t) refl)

-- `soonest`: later than every tick, whatever is due
never_for_soonest : (κs : _) → RuledOut soonest_contract.ended soonest_proof.Reads.Pre soonest_proof.Reads.Post κs (lent 1 (array 64 (5 ∷ 7 ∷ [])), (2, tt)) (never, _)
unfolding blank soonest_of
never_for_soonest κs = (omega arith, seen (λ t. t) refl)

-- `serve_job`: two units in one tick
two_units : (κs : _) → RuledOut serve_job_contract.ended serve_job_proof.Reads.Pre serve_job_proof.Reads.Post κs
    (job 3 11 0 1, (0, (lent 1 (array 17 (0 ∷ 1 ∷ [])), (lent 2 (chart 1 2 bounds (blank 192 1) (blank 64 0) (blank 64 0)), (11, tt))))) (job 1 11 0 3, _)
unfolding blank mark unit_of serve_at
two_units κs = ((omega arith, omega arith, good_bounds, (λ k. omega (arith, below (blank 192 1) k)), good_job, omega arith, omega arith), seen (λ x. x.ran) refl)

-- `note`: the smaller one of the response, 4, and the worst before, 1
smaller_response_kept : (κs : _) → RuledOut note_contract.ended note_proof.Reads.Pre note_proof.Reads.Post κs
    (job 1 11 0 3, (0, (lent 1 bounds, (13, (lent_mut 2 (array 192 (1 ∷ [])), tt))))) (tt, (_, (_, (_, (_, (array 192 (1 ∷ []), _))))))
unfolding blank off noted_at
smaller_response_kept κs = ((omega arith, omega arith, good_bounds, good_job), at 0 refl)

-- row 1 runs its stage one, row 2 runs its section, and the other rows are idle
abbrev jobs : List ℕ
jobs = array 576 (4 ∷ 1 ∷ 0 ∷ 1 ∷ 1 ∷ 1 ∷ 0 ∷ 0 ∷ 0 ∷ 5 ∷ 1 ∷ 0 ∷ 0 ∷ 1 ∷ 1 ∷ 0 ∷ 0 ∷ 0 ∷ [])

-- a code of at most 6 stands for one of three parts, so that jobs are good whose numbers are at most 6
part_in : (code number : ℕ) → code ≤ 6 → part_of (place_in code number) < 3
unfolding place_in
part_in zero number h = omega arith
part_in (suc c) number h =
    rw (ne_eqb (suc c) 0 (λ e. omega arith))
    (dite (dec_lt c 3) (λ l. rw (lt-ltb (suc c) 4 (omega arith)) (omega arith)) (λ l. rw (le-ltb (suc c) 4 (omega arith)) (omega arith)))

good_in : (flat : List ℕ) → highest flat ≤ 6 → (i : ℕ) → GoodJob (job_in flat i)
unfolding job_in
good_in flat h i = record { arrived = omega (arith, below flat (9 * i + 2)); part = part_in _ _ (omega (arith, below flat (9 * i))) }

-- `show`: the byte of processor 0 first, so that each byte is a place too late
bytes_from_processor_0 : (κs : _) → RuledOut show_contract.ended show_proof.Reads.Pre show_proof.Reads.Post κs
    (lent 1 jobs, (lent 2 (array 17 (0 ∷ 1 ∷ 2 ∷ [])), (lent_mut 3 (blank 2 0), tt))) (tt, (_, (_, (0x00 ∷ 0x40 ∷ [], _))))
unfolding blank tab place_in job_in jobs_in kind_of byte_of
bytes_from_processor_0 κs = ((omega arith, (λ q. omega (arith, below (array 17 (0 ∷ 1 ∷ 2 ∷ [])) q)), λ i h. good_in jobs (omega arith) i), at 0 refl)

-- ---- kieferntuch

-- `kieferntuch_run`: a call that is refused for its table, here without bytes, leaves zeros in the trace
wiped_on_refusal : (κs : _) (arrivals : List Arrival) → RuledOut kieferntuch_run_contract.ended run_asks run_says κs
    (lent 1 [], (lent 2 arrivals, (0, (1, (lent_mut 3 (blank 2 0xAA), tt))))) (refused 1 0 0 0, (_, (_, (_, (_, (blank 2 0, _))))))
unfolding blank header_number header_refusal refusal_number reading_of trace_after
wiped_on_refusal κs arrivals = (tt, λ p. at 0 refl p.1)

-- `kieferntuch_run`: refusal 11 of Q on two processors has the mark, 2, in the place of the value, which is 12
mark_for_the_value : (κs : _) (arrivals : List Arrival) → RuledOut kieferntuch_run_contract.ended run_asks run_says κs
    (lent 1 (written (Q 2 4)), (lent 2 arrivals, (0, (1, (lent_mut 3 (blank 2 0xAA), tt))))) (refused 11 2 2 2, (_, (_, (_, (_, (blank 2 0xAA, _))))))
unfolding planning table_answer run_answer
mark_for_the_value κs arrivals = (tt, λ p. seen (λ r. r.value) refl p.0)

-- `kieferntuch_plan`: refusal 11 of Q on two processors without its value
value_left_out : (κs : _) → RuledOut kieferntuch_plan_contract.ended kieferntuch_plan_proof.Reads.Pre kieferntuch_plan_proof.Reads.Post κs
    (lent 1 (written (Q 2 4)), (0, (lent_mut 2 (blank 30 0), tt))) (answer 11 2 2 0, (_, (_, (blank 30 0, _))))
unfolding planning plan_answer
value_left_out κs = (tt, λ p. seen (λ r. r.value) refl p.0)

-- `kieferntuch_plan`: the value, 6, of the first of two trials, and not that of the last, 3
value_of_the_first_trial : (κs : _) → RuledOut kieferntuch_plan_contract.ended kieferntuch_plan_proof.Reads.Pre kieferntuch_plan_proof.Reads.Post κs
    (lent 1 (written (3, PCP, (5, 1, 3, 1, 1) ∷ (5, 1, 3, 1, 2) ∷ [])), (0, (lent_mut 2 (blank 30 0), tt))) (answer 11 2 2 6, (_, (_, (blank 30 0, _))))
unfolding planning plan_answer
value_of_the_first_trial κs = (tt, λ p. seen (λ r. r.value) refl p.0)
