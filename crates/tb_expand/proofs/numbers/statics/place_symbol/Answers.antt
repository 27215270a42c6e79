use Rattle.std.proofs.Common.{◌∙◌, ap, ◌<◌, ◌++◌, ◌∷◌, [], length, vec_len, vec_capacity, is_ok, arith}
use Rattle.tb_prim.specs.declared.constant.Const.TheVariants as constant
use Rattle.tb_prim.specs.declared.constant.Static.TheVariants as object
use Rattle.tb_expand.specs.Numbers as spec
use Rattle.tb_expand.proofs.Placing.{symbol_there, symbol_new, knows_same, knows_pushed}
use Rattle.tb_expand.proofs.numbers.statics.place_symbol.Goals as goal

pub returns-in-Some-clause-constant : goal.returns-in-Some-clause-constant
returns-in-Some-clause-constant c = ap (λ (p : spec.Placed). p.constant) (symbol_there c.args.statics.now.objects.items c.args.text c.args.statics.now.symbols c.in-Some.number.now c.args.statics.now.known c.in-Some.ensures.value)

pub returns-in-Some-clause-objects : goal.returns-in-Some-clause-objects
returns-in-Some-clause-objects c = ap (λ (p : spec.Placed). p.statics) (symbol_there c.args.statics.now.objects.items c.args.text c.args.statics.now.symbols c.in-Some.number.now c.args.statics.now.known c.in-Some.ensures.value)

pub invariant_of-statics-in-Break-branch-4 : goal.invariant_of-statics-in-Break-branch-4
invariant_of-statics-in-Break-branch-4 c = record {
  known = knows_same c.args.statics.now.objects.items c.reserve.new.self.items c.args.statics.now.symbols c.insert.new.self c.args.statics.now.known c.reserve.ensures.items c.in_err-insert.ensures.err;
}

pub invariant_of-statics-2 : goal.invariant_of-statics-2
invariant_of-statics-2 c =
    let room : vec_len c.reserve.new.self < vec_capacity c.reserve.new.self = omega (arith, c.in_ok-reserve.ensures.ok) in
    record {
      known = knows_pushed (is_ok c.push.result) c.args.statics.now.objects.items c.reserve.new.self.items c.push.new.self.items c.args.text c.in_ok-new.field-0 c.in_ok-number.number
          c.args.statics.now.symbols c.insert.new.self c.args.statics.now.known c.in_default.ensures.value c.in_ok-insert.ensures.updates.0
          (c.in_ok-number.ensures ∙ ap length c.as_slice.ensures.value) c.in_ok-new.ensures c.reserve.ensures.items (c.push.ensures.succeeds room) c.push.ensures.items;
    }

pub returns-clause-constant : goal.returns-clause-constant
returns-clause-constant c =
    ap constant.Stat (c.in_ok-number.ensures ∙ ap length c.as_slice.ensures.value)
    ∙ ap (λ (p : spec.Placed). p.constant) (symbol_new c.args.statics.now.objects.items c.args.text c.args.statics.now.symbols c.args.statics.now.known c.in_default.ensures.value)

pub returns-clause-objects : goal.returns-clause-objects
returns-clause-objects c =
    c.in_ok-push.ensures.items ∙ ap (λ l. l ++ object.Sym c.in_ok-new.field-0 ∷ []) c.reserve.ensures.items ∙ ap (λ t. c.args.statics.now.objects.items ++ object.Sym t ∷ []) c.in_ok-new.ensures
    ∙ ap (λ (p : spec.Placed). p.statics) (symbol_new c.args.statics.now.objects.items c.args.text c.args.statics.now.symbols c.args.statics.now.known c.in_default.ensures.value)
