use Rattle.std.proofs.Common.{◌≡◌, ℕ, ◌+◌, ◌-◌, List, ◌++◌, length, take, drop, Option, Some, None, Ok, IfSome, ap, sym, ◌∙◌, append_assoc, arith, rules}
use Rattle.std.proofs.Math.Seq.{take-add}
use Rattle.std.proofs.lemmas.Grind.{common_steps}
use Rattle.tb_base.specs.Outside.{Puts}
use Rattle.tb_base.proofs.puts.put_all.Goals as goal

-- the bytes held after one more put, of the bytes behind those that were put before
more_put : (old now new : Option (List ℕ)) (bytes rest : List ℕ) (count more : ℕ) → rest ≡ drop count bytes → IfSome old (λ held. now ≡ Some (held ++ take count bytes)) → Puts now new rest (Ok more) → IfSome old (λ held. new ≡ Some (held ++ take (count + more) bytes))
more_put None now new bytes rest count more behind before put = tt
more_put (Some held) now new bytes rest count more behind before put =
    (rw (before, behind) at put) ∙ ap Some (append_assoc held (take count bytes) (take more (drop count bytes)) ∙ ap (λ end. held ++ end) (sym (take-add count more bytes)))

behind-take : (bytes : List ℕ) (count : ℕ) → take (length bytes - count) (drop count bytes) ≡ drop count bytes
behind-take bytes count = grind (arith, common_steps)

pub loop-count-preserved : goal.loop-count-preserved
loop-count-preserved g c = record {
  within = search rules;
  bytes = more_put (g.O.Sink.held c.args.out.now) (g.O.Sink.held c.loop-count.out) (g.O.Sink.held c.put.new.self) c.args.bytes.now _ c.loop-count.count c.in_ok-more.more (behind-take c.args.bytes.now c.loop-count.count) c.loop-count.invariant.bytes c.in_ok-more.ensures.bytes;
  faults = search rules;
}
