-- Every public function but the two of Open: any two results that its contract allows are the same, and so is what they leave in lent buffers. `NAME.Reads` is the function's own contract, which is an equation, so both results are the same as a third. The two that are lent records are in Records.
use mir.Syntax.{w64}
use mir.Val.{Fits}
use denote.Param.{number}
use mathlib.Core.Path.{◌≡◌, refl, sym, ◌∙◌, ap, to_path_p}
use mathlib.Core.Bool.{true≢false}
use Rattle.std.specs.Prelude.{Some, None, ◌≤◌}
use Rattle.std.specs.Coded.{le_prop}
use Rattle.settled.specs.Settled.{Settles}
use Rattle.lists.specs.contracts.blank as blank_contract
use Rattle.lists.proofs.blank as blank_proof
use Rattle.lists.specs.contracts.smaller as smaller_contract
use Rattle.lists.proofs.smaller as smaller_proof
use Rattle.lists.specs.contracts.store as store_contract
use Rattle.lists.proofs.store as store_proof
use Rattle.bits.specs.contracts.word as word_contract
use Rattle.bits.proofs.word as word_proof
use Rattle.bits.specs.contracts.field as field_contract
use Rattle.bits.proofs.field as field_proof
use Rattle.rank.specs.contracts.ranks as ranks_contract
use Rattle.rank.proofs.ranks as ranks_proof
use Rattle.rank.specs.contracts.uses as uses_contract
use Rattle.rank.proofs.uses as uses_proof
use Rattle.rank.specs.contracts.ceilings as ceilings_contract
use Rattle.rank.proofs.ceilings as ceilings_proof
use Rattle.rank.specs.contracts.in_rank as in_rank_contract
use Rattle.rank.proofs.in_rank as in_rank_proof
use Rattle.rank.specs.contracts.in_rows as in_rows_contract
use Rattle.rank.proofs.in_rows as in_rows_proof
use Rattle.rank.specs.contracts.numbers_to as numbers_to_contract
use Rattle.rank.proofs.numbers_to as numbers_to_proof
use Rattle.table.specs.contracts.Refusal.number as refusal_number_contract
use Rattle.table.proofs.Refusal.number as refusal_number_proof
use Rattle.table.specs.contracts.Refusal.names as refusal_names_contract
use Rattle.table.proofs.Refusal.names as refusal_names_proof
use Rattle.table.specs.contracts.read_table as read_table_contract
use Rattle.table.proofs.read_table as read_table_proof
use Rattle.table.specs.contracts.refusal_of as refusal_of_contract
use Rattle.table.proofs.refusal_of as refusal_of_proof
use Rattle.bounds.specs.contracts.Lanes.new as new_contract
use Rattle.bounds.proofs.Lanes.new as new_proof
use Rattle.bounds.specs.contracts.Lanes.bound_on as bound_on_contract
use Rattle.bounds.proofs.Lanes.bound_on as bound_on_proof
use Rattle.bounds.specs.contracts.Lanes.add as add_contract
use Rattle.bounds.proofs.Lanes.add as add_proof
use Rattle.sections.specs.contracts.section_bounds as section_bounds_contract
use Rattle.sections.proofs.section_bounds as section_bounds_proof
use Rattle.stages.specs.contracts.place_tasks as place_tasks_contract
use Rattle.stages.proofs.place_tasks as place_tasks_proof
use Rattle.spread.specs.contracts.weights as weights_contract
use Rattle.spread.proofs.weights as weights_proof
use Rattle.spread.specs.contracts.used as used_contract
use Rattle.spread.proofs.used as used_proof
use Rattle.spread.specs.contracts.heaviest as heaviest_contract
use Rattle.spread.proofs.heaviest as heaviest_proof
use Rattle.spread.specs.contracts.serve as serve_contract
use Rattle.spread.proofs.serve as serve_proof
use Rattle.plan.specs.contracts.Mark.number as mark_number_contract
use Rattle.plan.proofs.Mark.number as mark_number_proof
use Rattle.plan.specs.contracts.of_resource as of_resource_contract
use Rattle.plan.proofs.of_resource as of_resource_proof
use Rattle.plan.specs.contracts.plan_table as plan_table_contract
use Rattle.plan.proofs.plan_table as plan_table_proof
use Rattle.sheet.specs.contracts.write_plan as write_plan_contract
use Rattle.sheet.proofs.write_plan as write_plan_proof
use Rattle.arrivals.specs.contracts.Fault.number as fault_number_contract
use Rattle.arrivals.proofs.Fault.number as fault_number_proof
use Rattle.arrivals.specs.declared.flat.Flat.{Flat}
use Rattle.arrivals.specs.contracts.flat.Flat.new as flat_new_contract
use Rattle.arrivals.proofs.flat.Flat.new as flat_new_proof
use Rattle.arrivals.specs.contracts.flat.Flat.arrival as flat_arrival_contract
use Rattle.arrivals.proofs.flat.Flat.arrival as flat_arrival_proof
use Rattle.arrivals.specs.contracts.check_arrivals as check_arrivals_contract
use Rattle.arrivals.proofs.check_arrivals as check_arrivals_proof
use Rattle.arrivals.specs.contracts.brought as brought_contract
use Rattle.arrivals.proofs.brought as brought_proof
use Rattle.chain.specs.contracts.release_job as release_job_contract
use Rattle.chain.proofs.release_job as release_job_proof
use Rattle.chain.specs.contracts.due_of as due_of_contract
use Rattle.chain.proofs.due_of as due_of_proof
use Rattle.chain.specs.contracts.response as response_contract
use Rattle.chain.proofs.response as response_proof
use Rattle.chain.specs.contracts.unit as unit_contract
use Rattle.chain.proofs.unit as unit_proof
use Rattle.chain.specs.contracts.push as push_contract
use Rattle.chain.proofs.push as push_proof
use Rattle.chain.specs.contracts.owed as owed_contract
use Rattle.chain.proofs.owed as owed_proof
use Rattle.jobs.specs.contracts.job_at as job_at_contract
use Rattle.jobs.proofs.job_at as job_at_proof
use Rattle.jobs.specs.contracts.put_job as put_job_contract
use Rattle.jobs.proofs.put_job as put_job_proof
use Rattle.picks.specs.contracts.picks as picks_contract
use Rattle.picks.proofs.picks as picks_proof
use Rattle.machine.specs.contracts.State.start as start_contract
use Rattle.machine.proofs.State.start as start_proof
use Rattle.machine.specs.contracts.chart_of as chart_of_contract
use Rattle.machine.proofs.chart_of as chart_of_proof
use Rattle.machine.specs.contracts.soonest as soonest_contract
use Rattle.machine.proofs.soonest as soonest_proof
use Rattle.machine.specs.contracts.serve_job as serve_job_contract
use Rattle.machine.proofs.serve_job as serve_job_proof
use Rattle.machine.specs.contracts.note as note_contract
use Rattle.machine.proofs.note as note_proof
use Rattle.machine.specs.contracts.show as show_contract
use Rattle.machine.proofs.show as show_proof
use Rattle.machine.specs.contracts.count_up as count_up_contract
use Rattle.machine.proofs.count_up as count_up_proof
use Rattle.run.specs.contracts.run_flat as run_flat_contract
use Rattle.run.proofs.run_flat as run_flat_proof
use Rattle.listing.specs.contracts.write_listing as write_listing_contract
use Rattle.listing.proofs.write_listing as write_listing_proof
use Rattle.kieferntuch.specs.contracts.kieferntuch_read as kieferntuch_read_contract
use Rattle.kieferntuch.proofs.kieferntuch_read as kieferntuch_read_proof
use Rattle.kieferntuch.specs.contracts.kieferntuch_plan as kieferntuch_plan_contract
use Rattle.kieferntuch.proofs.kieferntuch_plan as kieferntuch_plan_proof

-- of every size
blank_settled : (n : _) (fits : Fits w64 n) → Settles (blank_contract.ended (number n)) (blank_proof.Reads.Pre n fits) (blank_proof.Reads.Post n fits)
blank_settled n fits κs a r s h p q = (p ∙ sym q, refl)

smaller_settled : Settles smaller_contract.ended smaller_proof.Reads.Pre smaller_proof.Reads.Post
smaller_settled κs a r s h p q = (p ∙ sym q, refl)

store_settled : Settles store_contract.ended store_proof.Reads.Pre store_proof.Reads.Post
store_settled κs a r s h p q = (refl, λ i. ((p ∙ sym q) i, (tt, (tt, tt))))

word_settled : Settles word_contract.ended word_proof.Reads.Pre word_proof.Reads.Post
word_settled κs a r s h p q = (p.0 ∙ sym q.0, refl)

field_settled : Settles field_contract.ended field_proof.Reads.Pre field_proof.Reads.Post
field_settled κs a r s h p q = (p.0 ∙ sym q.0, refl)

ranks_settled : Settles ranks_contract.ended ranks_proof.Reads.Pre ranks_proof.Reads.Post
ranks_settled κs a r s h p q = (p ∙ sym q, refl)

uses_settled : Settles uses_contract.ended uses_proof.Reads.Pre uses_proof.Reads.Post
uses_settled κs a r s h p q = (p ∙ sym q, refl)

ceilings_settled : Settles ceilings_contract.ended ceilings_proof.Reads.Pre ceilings_proof.Reads.Post
ceilings_settled κs a r s h p q = (p ∙ sym q, refl)

in_rank_settled : Settles in_rank_contract.ended in_rank_proof.Reads.Pre in_rank_proof.Reads.Post
in_rank_settled κs a r s h p q = (p ∙ sym q, refl)

in_rows_settled : Settles in_rows_contract.ended in_rows_proof.Reads.Pre in_rows_proof.Reads.Post
in_rows_settled κs a r s h p q = (p ∙ sym q, refl)

numbers_to_settled : Settles numbers_to_contract.ended numbers_to_proof.Reads.Pre numbers_to_proof.Reads.Post
numbers_to_settled κs a r s h p q = (p ∙ sym q, refl)

refusal_number_settled : Settles refusal_number_contract.ended refusal_number_proof.Reads.Pre refusal_number_proof.Reads.Post
refusal_number_settled κs a r s h p q = (p ∙ sym q, refl)

refusal_names_settled : Settles refusal_names_contract.ended refusal_names_proof.Reads.Pre refusal_names_proof.Reads.Post
refusal_names_settled κs a r s h p q = (p ∙ sym q, refl)

read_table_settled : Settles read_table_contract.ended read_table_proof.Reads.Pre read_table_proof.Reads.Post
read_table_settled κs a r s h p q = (p ∙ sym q, refl)

refusal_of_settled : Settles refusal_of_contract.ended refusal_of_proof.Reads.Pre refusal_of_proof.Reads.Post
refusal_of_settled κs a r s h p q = (p ∙ sym q, refl)

new_settled : Settles new_contract.ended new_proof.Reads.Pre new_proof.Reads.Post
new_settled κs a r s h p q = (λ i. record { terms = (p.0 ∙ sym q.0) i; count = (p.1 ∙ sym q.1) i }, refl)

bound_on_settled : Settles bound_on_contract.ended bound_on_proof.Reads.Pre bound_on_proof.Reads.Post
bound_on_settled κs a r s h p q = (p ∙ sym q, refl)

add_settled : Settles add_contract.ended add_proof.Reads.Pre add_proof.Reads.Post
add_settled κs a r s h p q = (refl, λ i. (record { terms = (p.0 ∙ sym q.0) i; count = (p.1 ∙ sym q.1) i }, (tt, (tt, tt))))

section_bounds_settled : Settles section_bounds_contract.ended section_bounds_proof.Reads.Pre section_bounds_proof.Reads.Post
section_bounds_settled κs a r s h p q = (p ∙ sym q, refl)

place_tasks_settled : Settles place_tasks_contract.ended place_tasks_proof.Reads.Pre place_tasks_proof.Reads.Post
place_tasks_settled κs a r s h p q = (p ∙ sym q, refl)

weights_settled : Settles weights_contract.ended weights_proof.Reads.Pre weights_proof.Reads.Post
weights_settled κs a r s h p q = (p ∙ sym q, refl)

used_settled : Settles used_contract.ended used_proof.Reads.Pre used_proof.Reads.Post
used_settled κs a r s h p q = (p.0 ∙ sym q.0, refl)

heaviest_settled : Settles heaviest_contract.ended heaviest_proof.Reads.Pre heaviest_proof.Reads.Post
heaviest_settled κs a r s h p q = (p ∙ sym q, refl)

serve_settled : Settles serve_contract.ended serve_proof.Reads.Pre serve_proof.Reads.Post
serve_settled κs a r s h p q = (p ∙ sym q, refl)

mark_number_settled : Settles mark_number_contract.ended mark_number_proof.Reads.Pre mark_number_proof.Reads.Post
mark_number_settled κs a r s h p q = (p ∙ sym q, refl)

of_resource_settled : Settles of_resource_contract.ended of_resource_proof.Reads.Pre of_resource_proof.Reads.Post
of_resource_settled κs a r s h p q = (p ∙ sym q, refl)

plan_table_settled : Settles plan_table_contract.ended plan_table_proof.Reads.Pre plan_table_proof.Reads.Post
plan_table_settled κs a r s h p q = (p ∙ sym q, refl)

write_plan_settled : Settles write_plan_contract.ended write_plan_proof.Reads.Pre write_plan_proof.Reads.Post
write_plan_settled κs a r s h p q = (refl, λ i. ((p ∙ sym q) i, (tt, (tt, (tt, tt)))))

fault_number_settled : Settles fault_number_contract.ended fault_number_proof.Reads.Pre fault_number_proof.Reads.Post
fault_number_settled κs a r s h p q = (p ∙ sym q, refl)

-- two lists of one count, over the same lent numbers, are the same
flat_same : (x y : Flat) → x.numbers ≡ y.numbers → x.count ≡ y.count → x ≡ y
flat_same x y e f = λ i. record { numbers = e i; count = f i; few = to_path_p (λ i. f i ≤ 4096) {a = x.few} {b = y.few} (le_prop _ _) i }

flat_new_settled : Settles flat_new_contract.ended flat_new_proof.Reads.Pre flat_new_proof.Reads.Post
flat_new_settled κs a (Some x, v) (Some y, w) h p q = (ap Some (flat_same x y (p.1.0 ∙ sym q.1.0) (p.1.1 ∙ sym q.1.1)), refl)
flat_new_settled κs a (Some x, v) (None, w) h p q = absurd (true≢false (p.0 ∙ sym q.0))
flat_new_settled κs a (None, v) (Some y, w) h p q = absurd (true≢false (q.0 ∙ sym p.0))
flat_new_settled κs a (None, v) (None, w) h p q = (refl, refl)

flat_arrival_settled : Settles flat_arrival_contract.ended flat_arrival_proof.Reads.Pre flat_arrival_proof.Reads.Post
flat_arrival_settled κs a r s h p q = (p ∙ sym q, refl)

check_arrivals_settled : Settles check_arrivals_contract.ended check_arrivals_proof.Reads.Pre check_arrivals_proof.Reads.Post
check_arrivals_settled κs a r s h p q = (p ∙ sym q, refl)

brought_settled : Settles brought_contract.ended brought_proof.Reads.Pre brought_proof.Reads.Post
brought_settled κs a r s h p q = (p ∙ sym q, refl)

release_job_settled : Settles release_job_contract.ended release_job_proof.Reads.Pre release_job_proof.Reads.Post
release_job_settled κs a r s h p q = (λ i. record { job = (p.0 ∙ sym q.0) i; late = (p.1 ∙ sym q.1) i }, refl)

due_of_settled : Settles due_of_contract.ended due_of_proof.Reads.Pre due_of_proof.Reads.Post
due_of_settled κs a r s h p q = (p ∙ sym q, refl)

response_settled : Settles response_contract.ended response_proof.Reads.Pre response_proof.Reads.Post
response_settled κs a r s h p q = (p ∙ sym q, refl)

unit_settled : Settles unit_contract.ended unit_proof.Reads.Pre unit_proof.Reads.Post
unit_settled κs a r s h p q = (p ∙ sym q, refl)

push_settled : Settles push_contract.ended push_proof.Reads.Pre push_proof.Reads.Post
push_settled κs a r s h p q = (p ∙ sym q, refl)

owed_settled : Settles owed_contract.ended owed_proof.Reads.Pre owed_proof.Reads.Post
owed_settled κs a r s h p q = (p.0 ∙ sym q.0, refl)

job_at_settled : Settles job_at_contract.ended job_at_proof.Reads.Pre job_at_proof.Reads.Post
job_at_settled κs a r s h p q = (p ∙ sym q, refl)

put_job_settled : Settles put_job_contract.ended put_job_proof.Reads.Pre put_job_proof.Reads.Post
put_job_settled κs a r s h p q = (refl, λ i. ((p ∙ sym q) i, (tt, (tt, tt))))

picks_settled : Settles picks_contract.ended picks_proof.Reads.Pre picks_proof.Reads.Post
picks_settled κs a r s h p q = (p ∙ sym q, refl)

start_settled : Settles start_contract.ended start_proof.Reads.Pre start_proof.Reads.Post
start_settled κs a r s h p q = (p ∙ sym q, refl)

chart_of_settled : Settles chart_of_contract.ended chart_of_proof.Reads.Pre chart_of_proof.Reads.Post
chart_of_settled κs a r s h p q = (p ∙ sym q, refl)

soonest_settled : Settles soonest_contract.ended soonest_proof.Reads.Pre soonest_proof.Reads.Post
soonest_settled κs a r s h p q = (p ∙ sym q, refl)

serve_job_settled : Settles serve_job_contract.ended serve_job_proof.Reads.Pre serve_job_proof.Reads.Post
serve_job_settled κs a r s h p q = (p ∙ sym q, refl)

note_settled : Settles note_contract.ended note_proof.Reads.Pre note_proof.Reads.Post
note_settled κs a r s h p q = (refl, λ i. (tt, (tt, (tt, (tt, ((p ∙ sym q) i, tt))))))

show_settled : Settles show_contract.ended show_proof.Reads.Pre show_proof.Reads.Post
show_settled κs a r s h p q = (refl, λ i. (tt, (tt, ((p ∙ sym q) i, tt))))

count_up_settled : Settles count_up_contract.ended count_up_proof.Reads.Pre count_up_proof.Reads.Post
count_up_settled κs a r s h p q = (p ∙ sym q, refl)

run_flat_settled : Settles run_flat_contract.ended run_flat_proof.Reads.Pre run_flat_proof.Reads.Post
run_flat_settled κs a r s h p q = (p.0 ∙ sym q.0, λ i. (tt, (tt, (tt, (tt, (tt, ((p.1 ∙ sym q.1) i, tt)))))))

write_listing_settled : Settles write_listing_contract.ended write_listing_proof.Reads.Pre write_listing_proof.Reads.Post
write_listing_settled κs a r s h p q = (p.0.ends ∙ sym q.0.ends, λ i. (tt, ((p.0.bytes ∙ sym q.0.bytes) i, tt)))

kieferntuch_read_settled : Settles kieferntuch_read_contract.ended kieferntuch_read_proof.Reads.Pre kieferntuch_read_proof.Reads.Post
kieferntuch_read_settled κs a r s h p q = (p ∙ sym q, refl)

kieferntuch_plan_settled : Settles kieferntuch_plan_contract.ended kieferntuch_plan_proof.Reads.Pre kieferntuch_plan_proof.Reads.Post
kieferntuch_plan_settled κs a r s h p q = (p.0 ∙ sym q.0, λ i. (tt, (tt, ((p.1 ∙ sym q.1) i, tt))))
