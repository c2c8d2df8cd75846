use Rattle.std.proofs.Common.{◌≡◌, ℕ, ◌<◌, ◌≤◌, ◌++◌, List, length, arith, refl, ap, length-append, length-take-le, sym}
use Rattle.std.proofs.Math.Decide.{dec_lt}
use Rattle.std.specs.Prelude.{Result, Ok}
use Rattle.answer.specs.Room.{answer_room}
use Rattle.table.specs.declared.Table.{Table}
use Rattle.table.specs.declared.TurnedAway.{TurnedAway}
use Rattle.table.specs.Parse as parse
use Rattle.table.specs.Parse.{got, away, table}
use Rattle.edf.specs.Judge.{Judges}
use Rattle.worked_run.proofs.run.Goals as goal

-- What stands at the front of a buffer ends within it.
front_within : (n : ℕ) (front rest whole : List ℕ) (r : Result ℕ TurnedAway) → r ≡ Ok n → r ≡ Ok (length front) → whole ≡ front ++ rest → n ≤ length whole
front_within n front rest whole r p q e =
    let same : n ≡ length front = cc in
    omega (arith, length-append front rest, ap length e)

-- An answer ends within the buffer.
answer_within : (bytes before after : List ℕ) (n : ℕ) → Judges bytes before after (Ok n) → n ≤ length after
answer_within bytes before after n j = go (dec_lt (length before) answer_room)
  where
    read : answer_room ≤ length before → (parsed : parse.Result Table) → table bytes 0 ≡ parsed → n ≤ length after
    read enough (away reason place) p = let e = (j.unread enough reason place p).returned in absurd cc
    read enough (got t next) p =
        let answers = (j.read enough t next p).answers in
        front_within n _ _ after (Ok n) refl answers.returned answers.written

    go : Dec (length before < answer_room) → n ≤ length after
    go (no enough) = read (omega arith) (table bytes 0) refl
    go (yes short) = let e = (j.short short).returned in absurd cc

pub slice_bounds-answer-end : goal.slice_bounds-answer-end
slice_bounds-answer-end g c = answer_within _ _ _ _ c.in-Ok.ensures

pub slice_bounds-line_of_bytes-end : goal.slice_bounds-line_of_bytes-end
slice_bounds-line_of_bytes-end g c = sym (length-take-le c.in-Ok.length c.judge.new.answer (answer_within _ _ _ _ c.in-Ok.ensures))
