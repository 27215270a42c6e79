use Rattle.std.proofs.Common.{arith}
use Rattle.tb_sexp.specs.View.{view}
use Rattle.tb_expand.specs.Limits.{within}
use Rattle.tb_expand.specs.View.{data_of, view_lists, view_state}
use Rattle.tb_expand.proofs.Scanning.{passes_define, passes_begin, define_fails, begin_fails, begin_smaller, element_size, behind_begin_fails, stop_here, stop_behind}
use Rattle.tb_expand.proofs.scan.+scan.Goals as goal

pub scan_begin-returns-in-Some : goal.scan_begin-returns-in-Some
scan_begin-returns-in-Some t c = behind_begin_fails _ _ _ _ _ _ _ _ _ _ _ c.in-Ok.ensures c.in-Some.ensures

pub scan_item-scan_begin-requires : goal.scan_item-scan_begin-requires
scan_item-scan_begin-requires t c =
    let h = begin_smaller (view_state c.args.state.now) c.args.context (view c.args.item.now) c.in-Beginning.place (data_of c.in-Beginning.rest.now) c.in-Beginning.ensures in
    omega (arith, h, c.decreases)

pub scan_item-returns-in-Ok : goal.scan_item-returns-in-Ok
scan_item-returns-in-Ok t c = passes_define _ _ _ _ c.in-Defining.place (data_of c.in-Defining.rest.now) _ _ _ c.in-Defining.ensures c.in-Ok.ensures

pub scan_item-returns-in-Err : goal.scan_item-returns-in-Err
scan_item-returns-in-Err t c =
    define_fails (view_state c.args.state.now) c.args.context (view c.args.item.now) c.in-Defining.place (data_of c.in-Defining.rest.now) c.in-Err.refusal c.in-Defining.ensures c.in-Err.ensures

pub scan_item-returns-in-Ok-scan_begin : goal.scan_item-returns-in-Ok-scan_begin
scan_item-returns-in-Ok-scan_begin t c =
    passes_begin _ _ _ _ c.in-Beginning.place (data_of c.in-Beginning.rest.now) _ _ _ c.in-Beginning.ensures c.in-Ok-scan_begin.ensures

pub scan_item-returns-in-Err-scan_begin : goal.scan_item-returns-in-Err-scan_begin
scan_item-returns-in-Err-scan_begin t c =
    begin_fails (view_state c.args.state.now) c.args.context (view c.args.item.now) c.in-Beginning.place (data_of c.in-Beginning.rest.now) c.in-Err-scan_begin.refusal c.in-Beginning.ensures c.in-Err-scan_begin.ensures

pub scan_items-scan_item-requires : goal.scan_items-scan_item-requires
scan_items-scan_item-requires t c =
    let h = element_size c.args.items.now c.loop-i.i c.index-items-i.result (omega arith) c.index-items-i.is in
    omega (arith, h, c.decreases)

pub scan_items-returns-in-Ok-None : goal.scan_items-returns-in-Ok-None
scan_items-returns-in-Ok-None t c =
    stop_here (view_state c.args.state.now) c.args.context (data_of c.args.items.now) (view_lists c.args.found.now) (view_state c.loop-i.state) (view_state c.scan_item.new.state) (within c.loop-i.scope c.args.context) c.within.result
    c.args.items.now c.loop-i.i c.index-items-i.result (view_lists c.loop-i.found) (view_lists c.scan_item.new.found) (omega arith) c.index-items-i.is c.loop-i.invariant c.within.ensures
    (rw c.in-Ok-None.field-0-is at c.in-Ok-None.ensures)

pub scan_items-returns : goal.scan_items-returns
scan_items-returns t c =
    stop_behind (view_state c.args.state.now) c.args.context (data_of c.args.items.now) (view_lists c.args.found.now) (view_state c.loop-i.state) (within c.loop-i.scope c.args.context)
    c.args.items.now c.loop-i.i (view_lists c.loop-i.found) (omega arith) c.loop-i.invariant
