use Rattle.std.proofs.Common.{◌≡◌, false, sym, ap, ◌∙◌, subst, ◌+◌, List, [], ◌∷◌, ◌++◌, map, drop, get_or}
use Rattle.std.proofs.lemmas.Result.{err_from_is_err_and}
use Rattle.tb_mac.specs.Assemble.{entry_labels, with_entry}
use Rattle.tb_mac.specs.declared.code.LambdaEntry.{LambdaEntry}
use Rattle.tb_mac.specs.calls.Labels.{number_in}
use Rattle.tb_mac.proofs.LabelLemmas.{Numbering, left-read, misses-behind, numbering-one}
use Rattle.tb_mac.proofs.assembler.numbered_entries.Goals as goal

-- what a read past the end would give
abbrev none : LambdaEntry
none = record { place = record { library = false; line = 0; column = 0 }; lifted = false; entry = 0 }

pub returns-in_err-entry_with_number-clause-missing :
    goal.returns-in_err-entry_with_number-clause-missing
returns-in_err-entry_with_number-clause-missing c =
    let p = err_from_is_err_and c.from_residual.result c.from_residual.ensures.1 in
    let e = left-read c.args.lambdas.now c.loop-lambda.lambda-index none c.loop-lambda-test.true in
    let n = c.loop-lambda.invariant in
    rw (p.1, p.2)
    (misses-behind c.args.found.now.entries n.before _ (entry_labels (drop (c.loop-lambda.lambda-index + 1) c.args.lambdas.now)) _ _ n.found
    (ap (λ left. n.before ++ entry_labels left) (sym e) ∙ n.named)
    c.in_err-entry_with_number.ensures.missing)

pub loop-lambda-preserved : goal.loop-lambda-preserved
loop-lambda-preserved c =
    let all = c.args.lambdas.now in
    let left = drop (c.loop-lambda.lambda-index + 1) all in
    let x = get_or all c.loop-lambda.lambda-index none in
    let to = with_entry (number_in c.args.found.now.entries) in
    let N = λ (out : List LambdaEntry) (ls : List LambdaEntry). Numbering c.args.found.now.entries out (map to ls) (map to all)
    (entry_labels all) (entry_labels ls) in
    let n = subst (N c.loop-lambda.out.items) (left-read all c.loop-lambda.lambda-index none c.loop-lambda-test.true) c.loop-lambda.invariant in
    let g = c.in_ok-entry_with_number.ensures in
    subst (λ out. N out left) (ap (λ y. c.loop-lambda.out.items ++ y ∷ []) (sym g.made) ∙ sym c.in_ok-push.ensures.items)
    (numbering-one c.args.found.now.entries c.loop-lambda.out.items (map to left) (map to all) (to x) (x.entry ∷ []) (entry_labels all) (entry_labels left) n g.stands)
