-- What each way through `bring` makes of the table.
use Rattle.std.proofs.Common.{arith}
use Rattle.table.proofs.Placing.{missed, found, came_passed, came_new, came_kept, came_gone, refused}
use Rattle.table.proofs.places.bring.Goals as goal

pub returns-then-is_not_empty : goal.returns-then-is_not_empty
returns-then-is_not_empty g c =
    let K = g.R.Keyed.kind in
    came_kept K c.args.r c.args.table.now c.args.used c.in-Ok.i (omega arith) c.args.room c.index-table-i.result c.join-both.result c.requires.fits
    (found K c.args.r c.args.table.now c.args.used c.in-Ok.i (omega arith) c.index-table-i.result c.index-table-i.is c.in-Ok.ensures) c.join-both.ensures c.if-is_not_empty.ensures

pub returns-else-is_not_empty : goal.returns-else-is_not_empty
returns-else-is_not_empty g c =
    let K = g.R.Keyed.kind in
    came_gone K c.args.r c.args.table.now c.args.used c.in-Ok.i (omega arith) c.args.room c.close_at.new.table c.index-table-i.result c.join-both.result c.requires.fits
    (found K c.args.r c.args.table.now c.args.used c.in-Ok.i (omega arith) c.index-table-i.result c.index-table-i.is c.in-Ok.ensures) c.join-both.ensures c.if-is_not_empty.ensures
    (record { front = c.close_at.ensures.records; back = c.close_at.ensures.rest }) c.close_at.auto.table

pub returns-then-not-is_not_empty : goal.returns-then-not-is_not_empty
returns-then-not-is_not_empty g c =
    let K = g.R.Keyed.kind in
    came_passed K c.args.r c.args.table.now c.args.used c.in-Err.i (omega arith) c.args.room c.requires.fits
    (missed K c.args.r c.args.table.now c.args.used c.in-Err.i (omega arith) c.in-Err.ensures) c.if-not-is_not_empty.ensures

pub returns-then-used-room : goal.returns-then-used-room
returns-then-used-room g c =
    let K = g.R.Keyed.kind in
    came_new K c.args.r c.args.table.now c.args.used c.in-Err.i (omega arith) c.args.room c.open_at.new.table
    (missed K c.args.r c.args.table.now c.args.used c.in-Err.i (omega arith) c.in-Err.ensures) c.if-not-is_not_empty.ensures c.if-used-room.true
    (record { front = c.open_at.ensures.records; back = c.open_at.ensures.rest }) c.open_at.auto.table

pub returns-else-used-room : goal.returns-else-used-room
returns-else-used-room g c =
    let K = g.R.Keyed.kind in
    refused K c.args.r c.args.table.now c.args.used c.in-Err.i (omega arith) c.args.room
    (missed K c.args.r c.args.table.now c.args.used c.in-Err.i (omega arith) c.in-Err.ensures) c.if-not-is_not_empty.ensures (omega arith)
