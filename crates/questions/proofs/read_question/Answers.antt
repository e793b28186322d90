-- `questions::read_question` meets its contract: each way is a law.
-- Assumes nothing.
use mathlib.Core.Path.{sym}
use native.Mathlib.Omega.{arith}
use Rattle.questions.proofs.Question.{question-short, question-unmarked, question-joined, question_no_port, second-inside, question_no_time, third-inside, question_no_room, start_inside, question_no_source, question-is}
use Rattle.questions.proofs.read_question.Goals as goal

pub returns-in_default : goal.returns-in_default
returns-in_default c = question-short _ (omega arith)

pub returns-in_default-2 : goal.returns-in_default-2
returns-in_default-2 c = question-joined _ (omega arith) (omega arith) (omega arith)

pub returns-in_default-3 : goal.returns-in_default-3
returns-in_default-3 c = question-unmarked _ (omega arith) (omega arith)

pub returns-in_err-port : goal.returns-in_err-port
returns-in_err-port c =
    let none = question_no_port c.args.line.now (omega arith) (omega arith) (omega arith) c.in_err-port.ensures in
    cc

pub read_part-requires-2 : goal.read_part-requires-2
read_part-requires-2 c = second-inside c.args.line.now (omega arith) (omega arith) (omega arith) c.in_ok-port.port c.in_ok-port.ensures

pub returns-in_err-time : goal.returns-in_err-time
returns-in_err-time c =
    let none = question_no_time c.args.line.now (omega arith) (omega arith) (omega arith) c.in_ok-port.port c.in_ok-port.ensures c.in_err-time.ensures in
    cc

pub read_part-requires-3 : goal.read_part-requires-3
read_part-requires-3 c = third-inside c.args.line.now (omega arith) (omega arith) (omega arith) c.in_ok-port.port c.in_ok-port.ensures c.in_ok-time.time c.in_ok-time.ensures

pub returns-in_err-room : goal.returns-in_err-room
returns-in_err-room c =
    let none = question_no_room c.args.line.now (omega arith) (omega arith) (omega arith) c.in_ok-port.port c.in_ok-port.ensures c.in_ok-time.time c.in_ok-time.ensures c.in_err-room.ensures in
    cc

pub slice_bounds-is_source-count : goal.slice_bounds-is_source-count
slice_bounds-is_source-count c = start_inside c.args.line.now (omega arith) (omega arith) (omega arith) c.in_ok-port.port c.in_ok-port.ensures c.in_ok-time.time c.in_ok-time.ensures c.in_ok-room.room c.in_ok-room.ensures

pub slice_bounds-is_source-start : goal.slice_bounds-is_source-start
slice_bounds-is_source-start c = start_inside c.args.line.now (omega arith) (omega arith) (omega arith) c.in_ok-port.port c.in_ok-port.ensures c.in_ok-time.time c.in_ok-time.ensures c.in_ok-room.room c.in_ok-room.ensures

pub returns-then-not-is_source : goal.returns-then-not-is_source
returns-then-not-is_source c =
    question_no_source c.args.line.now (omega arith) (omega arith) (omega arith) c.in_ok-port.port c.in_ok-port.ensures c.in_ok-time.time c.in_ok-time.ensures c.in_ok-room.room c.in_ok-room.ensures (sym c.if-not-is_source.ensures)

pub returns : goal.returns
returns c = question-is c.args.line.now (omega arith) (omega arith) (omega arith) c.in_ok-port.port c.in_ok-port.ensures c.in_ok-time.time c.in_ok-time.ensures c.in_ok-room.room c.in_ok-room.ensures (sym c.if-not-is_source.ensures)
