use Rattle.std.proofs.Common.{◌≡◌, ◌<◌, true, List, Some, sym, ◌∙◌, arith}
use denote.Ref.{Bor}
use Rattle.vlog_prep.specs.declared.piece.Piece.{Piece}
use Rattle.vlog_prep.specs.Reading.{is_read}
use Rattle.vlog_prep.specs.Table.{found}
use Rattle.vlog_prep.specs.Seen.{seen}
use Rattle.vlog_prep.proofs.Levels.{used-none, used-more, use-refused, found-some}
use Rattle.vlog_prep.proofs.progress.Progress.body.Goals as goal

pub returns-then-levels-eq0 : goal.returns-then-levels-eq0
returns-then-levels-eq0 c =
    let reads : is_read (seen c.args.self.now).conditions ≡ true = sym c.is_read.ensures ∙ c.if-not-is_read.false in
    let defined : found c.args.self.now.macros c.args.name.now ≡ Some c.in-Some.body.now =
    found-some (λ (r : Bor (List Piece)). r.now) c.get.result c.in-Some.body (found c.args.self.now.macros c.args.name.now) c.in-Some.is c.get.ensures in
    rw c.refuse-then-levels-eq0.ensures (used-none c.args.place c.args.name.now c.in-Some.body.now (seen c.args.self.now) reads defined c.args.levels c.if-levels-eq0.true)

pub returns-in-Err : goal.returns-in-Err
returns-in-Err c =
    let reads : is_read (seen c.args.self.now).conditions ≡ true = sym c.is_read.ensures ∙ c.if-not-is_read.false in
    let defined : found c.args.self.now.macros c.args.name.now ≡ Some c.in-Some.body.now =
    found-some (λ (r : Bor (List Piece)). r.now) c.get.result c.in-Some.body (found c.args.self.now.macros c.args.name.now) c.in-Some.is c.get.ensures in
    let some : 0 < c.args.levels = omega arith in
    use-refused c.args.place c.args.name.now c.in-Some.body.now (seen c.args.self.now) reads defined c.args.levels some c.in-Err.fault (seen c.substitute.new.self) (seen c.substitute.new.self) c.in-Err.ensures

pub returns-in-Ok : goal.returns-in-Ok
returns-in-Ok c =
    let reads : is_read (seen c.args.self.now).conditions ≡ true = sym c.is_read.ensures ∙ c.if-not-is_read.false in
    let defined : found c.args.self.now.macros c.args.name.now ≡ Some c.in-Some.body.now =
    found-some (λ (r : Bor (List Piece)). r.now) c.get.result c.in-Some.body (found c.args.self.now.macros c.args.name.now) c.in-Some.is c.get.ensures in
    let some : 0 < c.args.levels = omega arith in
    (some, used-more c.args.place c.args.name.now c.in-Some.body.now (seen c.args.self.now) reads defined c.args.levels some (seen c.substitute.new.self) c.in-Ok.ensures)
