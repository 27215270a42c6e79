use Rattle.std.proofs.Common.{◌≡◌, ◌≤◌, ◌+◌, ℕ, List, [], ◌++◌, length, take, Option, Some, None, IfSome, refl, ◌∙◌, arith, rules}
use Rattle.std.specs.Option.{option_map}
use Rattle.std.proofs.lemmas.List.{take_all, length-take}
use Rattle.tb_base.proofs.real_store.read_at_most.Goals as goal

-- a front of one byte more than the limit is all, where it is within the limit
whole_front : (left : List ℕ) (limit : ℕ) → length (take (limit + 1) left) ≤ limit → take (limit + 1) left ≡ left
whole_front left limit h = take_all (limit + 1) left (let n = length-take (limit + 1) left in omega arith)

all_given : (told known : Option (List ℕ)) (limit : ℕ) (bytes start : List ℕ) → start ≡ [] → known ≡ option_map (take (limit + 1)) told → IfSome known (λ front. bytes ≡ start ++ front) → length bytes ≤ limit → IfSome told (λ left. bytes ≡ left)
all_given None known limit bytes start empty front given within = tt
all_given (Some left) known limit bytes start empty front given within =
    let same : bytes ≡ take (limit + 1) left = rw (front, empty) at given in
    same ∙ whole_front left limit (rw same at within)

pub returns-then-len-limit-clause-bytes : goal.returns-then-len-limit-clause-bytes
returns-then-len-limit-clause-bytes g c =
    all_given (g.F.Read.remaining c.args.file) _ c.args.limit c.read_to_end.new.buf.items c.new-bytes.result.items c.new-bytes.ensures.items (rw (c.take.ensures.limit, c.take.ensures.inner) refl) c.in-Ok.ensures.bytes (search rules)
