-- `stretch::stretch` meets its contract.
use Prim.Native.Nat.{◌≤◌}
use native.Mathlib.Omega.{arith}
use native.Mathlib.Numerals.{add-one}
use Rattle.arrivals.specs.Arrival.{listed, brings}
use Rattle.arrivals.proofs.Numbers.{length_listed}
use Rattle.jobs.specs.Numbers.{jobs_in}
use Rattle.stretch.proofs.Together.{places_good, all_places_good, rows-le, Released, Rests, were_released, picks, ready, after, stretched, dues_after}
use Rattle.stretch.proofs.stretch.Goals as goal

pub picks-picked-requires : goal.picks-picked-requires
picks-picked-requires c =
    let a = c.args in
    let js = jobs_in a.s.now.jobs in
    let flat = c.release_rows.new.jobs in
    let given = c.in_ok-next.ensures.ok in
    (c.requires.2.homed, places_good a.c.now (brings (listed a.xs.now)) a.t js flat c.requires.2 c.requires.3.good (omega (arith, c.requires.0, c.requires.1)) given.1)

pub show-requires : goal.show-requires
show-requires c =
    let a = c.args in
    let js = jobs_in a.s.now.jobs in
    let flat = c.release_rows.new.jobs in
    let given = c.in_ok-next.ensures.ok in
    let h : a.t ≤ 1000000 = omega (arith, c.requires.0, c.requires.1) in
    (c.requires.5, rows-le a.c.now (brings (listed a.xs.now)) a.t js flat c.requires.2 c.requires.3.good h given.1 c.picks-picked.result c.picks-picked.ensures, all_places_good a.c.now (brings (listed a.xs.now)) a.t js flat c.requires.2 c.requires.3.good h given.1)

pub ticks_behind-more-requires : goal.ticks_behind-more-requires
ticks_behind-more-requires c =
    let a = c.args in
    let js = jobs_in a.s.now.jobs in
    let flat = c.release_rows.new.jobs in
    let given = c.in_ok-next.ensures.ok in
    (c.requires.2.homed.few, c.requires.0, rows-le a.c.now (brings (listed a.xs.now)) a.t js flat c.requires.2 c.requires.3.good (omega (arith, c.requires.0, c.requires.1)) given.1 c.picks-picked.result c.picks-picked.ensures)

pub note_rows-requires : goal.note_rows-requires
note_rows-requires c =
    let a = c.args in
    let js = jobs_in a.s.now.jobs in
    let flat = c.release_rows.new.jobs in
    let given = c.in_ok-next.ensures.ok in
    let ch = a.c.now in
    let xs = listed a.xs.now in
    let dues = c.release_rows.new.due in
    let rows = c.picks-picked.result in
    let next = c.in_ok-next.next in
    let more = c.ticks_behind-more.result in
    let behind = c.ticks_behind-more.ensures in
    let rel : Released ch xs a.t js flat dues rows next = were_released c.requires.2 c.requires.3.good given c.picks-picked.ensures in
    let rests : Rests ch xs a.t a.e flat dues rows next more =
    record { short = behind.0; none_comes = λ b l. behind.1 b (rw (length_listed a.xs.now) at l); still = behind.2; go_on = behind.3 } in
    (c.requires.2.processors, omega (arith, behind.0, c.requires.1), c.requires.2.bounded, ready ch xs a.t a.e js flat dues rows next c.requires.1 rel more rests)

pub run_rows-requires : goal.run_rows-requires
run_rows-requires c =
    let a = c.args in
    let js = jobs_in a.s.now.jobs in
    let flat = c.release_rows.new.jobs in
    let given = c.in_ok-next.ensures.ok in
    let ch = a.c.now in
    let xs = listed a.xs.now in
    let dues = c.release_rows.new.due in
    let rows = c.picks-picked.result in
    let next = c.in_ok-next.next in
    let more = c.ticks_behind-more.result in
    let behind = c.ticks_behind-more.ensures in
    let rel : Released ch xs a.t js flat dues rows next = were_released c.requires.2 c.requires.3.good given c.picks-picked.ensures in
    let rests : Rests ch xs a.t a.e flat dues rows next more =
    record { short = behind.0; none_comes = λ b l. behind.1 b (rw (length_listed a.xs.now) at l); still = behind.2; go_on = behind.3 } in
    (omega (arith, behind.0, c.requires.1), c.requires.2.bounded, c.requires.2.homed.on, picks ch xs a.t a.e js flat dues rows next c.requires.1 rel more rests)

pub overflow_add-result : goal.overflow_add-result
overflow_add-result c = omega (arith, c.ticks_behind-more.ensures.0, c.requires.1)

pub returns : goal.returns
returns c =
    let a = c.args in
    let js = jobs_in a.s.now.jobs in
    let flat = c.release_rows.new.jobs in
    let given = c.in_ok-next.ensures.ok in
    let ch = a.c.now in
    let xs = listed a.xs.now in
    let dues = c.release_rows.new.due in
    let rows = c.picks-picked.result in
    let next = c.in_ok-next.next in
    let more = c.ticks_behind-more.result in
    let behind = c.ticks_behind-more.ensures in
    let rel : Released ch xs a.t js flat dues rows next = were_released c.requires.2 c.requires.3.good given c.picks-picked.ensures in
    let rests : Rests ch xs a.t a.e flat dues rows next more =
    record { short = behind.0; none_comes = λ b l. behind.1 b (rw (length_listed a.xs.now) at l); still = behind.2; go_on = behind.3 } in
    let ran = c.run_rows in
    let noted = c.note_rows in
    let shown = c.show in
    record {
      ok = (
        given.0,
        stretched ch xs a.t a.e js flat dues rows next c.requires.1 rel more rests a.s.now.worst ran.new.jobs noted.new.worst shown.new.lane _ ran.ensures.0 noted.ensures shown.ensures,
        omega arith,
        omega (arith, behind.0),
        dues_after ch xs a.t a.e js flat dues rows next c.requires.1 rel more rests ran.new.jobs ran.new.due ran.ensures.1,
        rw (add-one more) (after ch xs a.t a.e js flat dues rows next c.requires.1 rel more rests),
        ran.ensures.2,
        ran.ensures.3,
      );
      err = tt;
      kept = tt;
    }
