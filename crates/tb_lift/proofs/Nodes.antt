-- Expressions, sequences and nodes with operands are evaluated by both.
use Rattle.std.proofs.Common.{◌≡◌, refl, sym, ap, ◌∙◌, subst, subst₂, ℕ, ◌<◌, arith, ⊎_elim, List, [], ◌∷◌, ◌++◌, length, drop, Option, append_assoc, append-nil}
use Rattle.tb_prim.specs.declared.place.Place.{Place}
use Rattle.tb_prim.specs.declared.event.Event.{Event}
use Rattle.tb_semantics.specs.Graph.{IsIn}
use Rattle.tb_core.specs.Store.{Value}
use Rattle.tb_core.specs.Partners as Like
use Rattle.tb_core.proofs.Members.{in-left, in-right, in-either}
use Rattle.tb_ir.specs.Tree.{Tree, Form, NewCell, CellGet, CellSet, Call, Apply, Trees, count, tree_at, operands}
use Rattle.tb_ir.specs.FreeVariables.{free, free_all}
use Rattle.tb_ir.specs.Rules.{IsPermutation}
use Rattle.tb_ir.specs.Machine.{Env, gather, bind_all}
use Rattle.tb_ir.specs.TreeMachine as T
use Rattle.tb_ir.specs.TreeMachine.{TreeConfig, TreeState, Frames, numbers, free_of_numbers, free_of_body}
use Rattle.tb_lift.proofs.Environments.{bound-agree, left-in}
use Rattle.tb_lift.proofs.Rel as Rel
use Rattle.tb_lift.proofs.Rel.{World, AllAlike, Pass, source, target, Becomes, FormBecomes, BecomeAll, all_end, all_more, Uses, EnvRel, kind, lifted_of, ValuesRel, source_operands, target_operands, FramesRel}
use Rattle.tb_lift.proofs.Uses.{Fits, uses-tree, uses-all}
use Rattle.tb_lift.proofs.Scopes.{env-cut, env-gather, scope-sub, scope-cut, scope-bound}
use Rattle.tb_lift.proofs.Shape.{Held}
use Rattle.tb_lift.proofs.Base.{Ground, StateRel}
use Rattle.tb_lift.proofs.Simple as Simple
use Rattle.tb_lift.proofs.Operands.{OperandPair, no_operand, operand_stays, operand_lifted, operand-at, numbers-same, permutation-length, uses-operands, arranged-related, Numbered, all-alike, bindings-numbered, values-long, long-bound}

-- what comes behind a front of a list
pub drop-front : (xs ys : List ℕ) → drop (length xs) (xs ++ ys) ≡ ys
drop-front [] ys = refl
drop-front (x ∷ xs) ys = drop-front xs ys

module _ (z : Pass) (fits : Fits z) (w : World) (c d : TreeConfig) (g : Ground z w c d) (held : Held z w c d) where
  -- an expression that is part of the code of these environments
  pub evaluates : {i : ℕ} {ls xs ys : List ℕ} {e b : Tree} {q r m : Env} (fs hs : Frames) (es : List Event) →
      EnvRel z w ls xs q ys r m → Becomes z i e b → ((x : ℕ) → IsIn x (free z.source_free e) → IsIn x xs) →
      ((y : ℕ) → IsIn y (free z.target_free b) → IsIn y ys) → FramesRel z w fs hs →
      StateRel z (T.evaluate_cut (target z) c b r fs es) (T.evaluate_cut (source z) d e q hs es)
  evaluates fs hs es env b h k f =
      Simple.goes z w c d g _ _ fs hs es (Rel.eval b (env-cut z w env h k (uses-tree z fits b))) f

  pub sequences : {i : ℕ} {ls xs ys : List ℕ} {es ds : Trees} {q r m : Env} (fs hs : Frames) (out : List Event) →
      EnvRel z w ls xs q ys r m → BecomeAll z i es ds → ((x : ℕ) → IsIn x (free_all z.source_free es) → IsIn x xs) →
      ((y : ℕ) → IsIn y (free_all z.target_free ds) → IsIn y ys) → FramesRel z w fs hs →
      StateRel z (T.sequence (target z) c ds r fs out) (T.sequence (source z) d es q hs out)
  sequences fs hs out env all_end h k f = Simple.loses z w c d g held out
  sequences fs hs out env (all_more {e = e} {d = b} a all_end) h k f =
      evaluates fs hs out env a (λ x i. h x (in-left x (free z.source_free e) [] i))
      (λ y i. k y (in-left y (free z.target_free b) [] i)) f
  sequences fs hs out env (all_more {e = e} {d = b} a (all_more n ns)) h k f =
      evaluates _ _ out env a (λ x i. h x (in-left x (free z.source_free e) _ i))
      (λ y i. k y (in-left y (free z.target_free b) _ i))
      (Rel.frame
      (Rel.rest (all_more n ns)
      (env-cut z w env (λ x i. h x (in-right x (free z.source_free e) _ i))
      (λ y i. k y (in-right y (free z.target_free b) _ i)) (uses-all z fits (all_more n ns)))) f)

  -- nodes whose operands have all been evaluated
  cell_made : (p : Place) (e b : Tree) (q r : Env) {vs us : List Value} (fs hs : Frames) (es : List Event) →
      AllAlike w vs us → FramesRel z w fs hs →
      StateRel z (T.complete (target z) c p (NewCell b) vs r fs es) (T.complete (source z) d p (NewCell e) us q hs es)
  cell_made p e b q r fs hs es Like.nothing f = Simple.loses z w c d g held es
  cell_made p e b q r fs hs es (Like.further v Like.nothing) f = Simple.makes-cell z w c d g held _ _ fs hs es v f
  cell_made p e b q r fs hs es (Like.further v (Like.further x y)) f = Simple.loses z w c d g held es

  cell_read : (p : Place) (e b : Tree) (q r : Env) {vs us : List Value} (fs hs : Frames) (es : List Event) →
      AllAlike w vs us → FramesRel z w fs hs →
      StateRel z (T.complete (target z) c p (CellGet b) vs r fs es) (T.complete (source z) d p (CellGet e) us q hs es)
  cell_read p e b q r fs hs es Like.nothing f = Simple.loses z w c d g held es
  cell_read p e b q r fs hs es (Like.further v Like.nothing) f = Simple.gets-cell z w c d g held p _ _ fs hs es v f
  cell_read p e b q r fs hs es (Like.further v (Like.further x y)) f = Simple.loses z w c d g held es

  cell_written : (p : Place) (e b a o : Tree) (q r : Env) {vs us : List Value} (fs hs : Frames) (es : List Event) →
      AllAlike w vs us → FramesRel z w fs hs →
      StateRel z (T.complete (target z) c p (CellSet b o) vs r fs es) (T.complete (source z) d p (CellSet e a) us q hs es)
  cell_written p e b a o q r fs hs es Like.nothing f = Simple.loses z w c d g held es
  cell_written p e b a o q r fs hs es (Like.further v Like.nothing) f = Simple.loses z w c d g held es
  cell_written p e b a o q r fs hs es (Like.further v (Like.further x Like.nothing)) f =
      Simple.sets-cell z w c d g held _ _ _ _ fs hs es v x f
  cell_written p e b a o q r fs hs es (Like.further v (Like.further x (Like.further y ys))) f =
      Simple.loses z w c d g held es

  called : (p : Place) (e b : Tree) (ks bs : Trees) (q r : Env) {vs us : List Value} (fs hs : Frames) (es : List Event) →
      AllAlike w vs us → FramesRel z w fs hs →
      StateRel z (T.complete (target z) c p (Call b bs) vs r fs es) (T.complete (source z) d p (Call e ks) us q hs es)
  called p e b ks bs q r fs hs es Like.nothing f = Simple.loses z w c d g held es
  called p e b ks bs q r fs hs es (Like.further v vs) f = Simple.enters z w c d g held p _ _ _ _ fs hs es v vs f

  applied : (p : Place) (e b a o : Tree) (q r : Env) {vs us : List Value} (fs hs : Frames) (es : List Event) →
      AllAlike w vs us → FramesRel z w fs hs →
      StateRel z (T.complete (target z) c p (Apply b o) vs r fs es) (T.complete (source z) d p (Apply e a) us q hs es)
  applied p e b a o q r fs hs es Like.nothing f = Simple.loses z w c d g held es
  applied p e b a o q r fs hs es (Like.further v Like.nothing) f = Simple.loses z w c d g held es
  applied p e b a o q r fs hs es (Like.further v (Like.further x Like.nothing)) f =
      Simple.applies z w c d g held p _ _ _ _ fs hs es v x f
  applied p e b a o q r fs hs es (Like.further v (Like.further x (Like.further y ys))) f =
      Simple.loses z w c d g held es

  completes : {i : ℕ} {f b : Form} {ls xs ys : List ℕ} {q r m : Env} {vs us : List Value} (p : Place) (fs hs : Frames)
      (es : List Event) → FormBecomes z i f b → Numbered z w m (kind z f) 0 vs us → length vs ≡ count (operands f) →
      EnvRel z w ls xs q ys r m → ((x : ℕ) → IsIn x (free_of_body (source z) f) → IsIn x xs) →
      ((y : ℕ) → IsIn y (free_of_body (target z) b) → IsIn y ys) → FramesRel z w fs hs →
      StateRel z (T.complete (target z) c p b vs r fs es) (T.complete (source z) d p f us q hs es)
  completes {q = q} {r = r} {m = m} p fs hs es (Rel.new_cell {e = x} {d = y} a) vals e env h k f =
      cell_made p x y q r fs hs es (all-alike z w m (λ i. refl) vals) f
  completes {q = q} {r = r} {m = m} p fs hs es (Rel.cell_get {e = x} {d = y} a) vals e env h k f =
      cell_read p x y q r fs hs es (all-alike z w m (λ i. refl) vals) f
  completes {q = q} {r = r} {m = m} p fs hs es (Rel.cell_set {c = x} {e = o} {d = y} {f = n} a b) vals e env h k f =
      cell_written p x y o n q r fs hs es (all-alike z w m (λ i. refl) vals) f
  completes {q = q} {r = r} {m = m} p fs hs es (Rel.call {f = x} {g = y} {es = o} {ds = n} a b) vals e env h k f =
      called p x y o n q r fs hs es (all-alike z w m (λ i. refl) vals) f
  completes {m = m} p fs hs es (Rel.primitive b) vals e env h k f =
      Simple.uses-primitive z w c d g held p _ _ _ fs hs es (all-alike z w m (λ i. refl) vals) f
  completes {q = q} {r = r} {m = m} p fs hs es (Rel.apply {f = x} {g = y} {e = o} {d = n} a b) vals e env h k f =
      applied p x y o n q r fs hs es (all-alike z w m (λ i. refl) vals) f
  completes {q = q} {r = r} {m = m} {vs = vs} {us = us} p fs hs es (Rel.let_values {xs = xs} {e = o} {d = b} bs clear a) vals e env h k f =
      let long = long-bound z bs in
      let env_of : EnvRel z w [] (free z.source_free o) (gather (free z.source_free o) (bind_all xs us q))
      (free z.target_free b) (gather (free z.target_free b) (bind_all xs vs r)) (bind_all xs vs m) =
      env-gather z w (free z.source_free o) (free z.target_free b) (bind_all xs vs r)
      (scope-bound z w fits (bindings-numbered z w m xs (e ∙ sym long) vals) clear (scope-sub z w h env.scope))
      (λ x i. i) (λ y i. i) (λ y i. i)
      (λ y i. bound-agree xs vs r m y (long ∙ sym e) (λ away. env.agree y (k y (left-in xs (free z.target_free b) y away i))))
      (uses-tree z fits a) in
      Simple.goes z w c d g _ _ fs hs es (Rel.eval a env_of) f

  -- what is left of the numbers of the operands
  in_source : (f : Form) (n : ℕ) (ns : List ℕ) (x : ℕ) → IsIn x (source_operands z f ns) →
      IsIn x (source_operands z f (n ∷ ns))
  in_source f n ns x i =
      let os = free_of_numbers (source z) (operands f) in
      ⊎_elim (λ j. in-left x (os (n ∷ ns)) _ (in-right x (T.free_of_tree (source z) (tree_at (operands f) n)) _ j))
      (λ j. in-right x (os (n ∷ ns)) _ j) (in-either x (os ns) _ i)

  in_target : (f : Form) (n : ℕ) (ns : List ℕ) (x : ℕ) → IsIn x (target_operands z f ns) →
      IsIn x (target_operands z f (n ∷ ns))
  in_target f n ns x i =
      let os = free_of_numbers (target z) (operands f) in
      ⊎_elim (λ j. in-left x (os (n ∷ ns)) _ (in-right x (T.free_of_tree (target z) (tree_at (operands f) n)) _ j))
      (λ j. in-right x (os (n ∷ ns)) _ j) (in-either x (os ns) _ i)

  -- the operand of a number, with the frame for those after it
  operand_of : {i : ℕ} {f b : Form} {ls xs ys : List ℕ} {q r m : Env} {vs us : List Value} (p : Place) (s : ℕ)
      (done : List ℕ) (n : ℕ) (ns : List ℕ) (fs hs : Frames) (es : List Event) (o : Option ℕ) (a e : Option Tree) →
      kind z f n ≡ o → tree_at (operands f) n ≡ a → tree_at (operands b) n ≡ e → OperandPair z i o a e →
      IsPermutation (numbers (z.line s) f) (count (operands f)) → FormBecomes z i f b →
      numbers (z.line s) f ≡ done ++ n ∷ ns → ValuesRel z w m f done vs us → EnvRel z w ls xs q ys r m →
      ((x : ℕ) → IsIn x (source_operands z f (n ∷ ns)) → IsIn x xs) →
      ((y : ℕ) → IsIn y (target_operands z b (n ∷ ns)) → IsIn y ys) → FramesRel z w fs hs →
      StateRel z (T.operand (target z) c p s b vs r ns e fs es) (T.operand (source z) d p s f us q ns a hs es)
  operand_of p s done n ns fs hs es o _ _ ko ea ee no_operand perm fb whole vals env h k f = Simple.loses z w c d g held es
  operand_of {f = form} {b = b} {q = q} {r = r} p s done n ns fs hs es _ _ _ ko ea ee (operand_stays {e = a} {d = e} t) perm fb whole vals env h k f =
      let full : (j : ℕ) → j < count (operands form) → IsIn j ((done ++ n ∷ []) ++ ns) =
      λ j lt. subst (IsIn j) (whole ∙ sym (append_assoc done (n ∷ []) ns)) (perm.full j lt) in
      let here : (x : ℕ) → IsIn x (free z.source_free a) → IsIn x (source_operands z form (n ∷ ns)) =
      λ x i. in-left x (free_of_numbers (source z) (operands form) (n ∷ ns)) _
      (in-left x (T.free_of_tree (source z) (tree_at (operands form) n)) _ (subst (λ t. IsIn x (T.free_of_tree (source z) t)) (sym ea) i)) in
      let there : (x : ℕ) → IsIn x (free z.target_free e) → IsIn x (target_operands z b (n ∷ ns)) =
      λ x i. in-left x (free_of_numbers (target z) (operands b) (n ∷ ns)) _
      (in-left x (T.free_of_tree (target z) (tree_at (operands b) n)) _ (subst (λ t. IsIn x (T.free_of_tree (target z) t)) (sym ee) i)) in
      evaluates _ _ es env t (λ x i. h x (here x i)) (λ y i. k y (there y i))
      (Rel.frame
      (Rel.args (Rel.operand_next n done ns perm fb whole ko vals
      (env-cut z w env (λ x i. h x (in_source form n ns x i)) (λ y i. k y (in_target b n ns y i))
      (uses-operands z fits fb (done ++ n ∷ []) ns full)))) f)
  operand_of {f = form} {b = b} {q = q} {r = r} p s done n ns fs hs es _ _ _ ko ea ee (operand_lifted {l = l} {s = t} {p = o} lifts) perm fb whole vals env h k f =
      let full : (j : ℕ) → j < count (operands form) → IsIn j ((done ++ n ∷ []) ++ ns) =
      λ j lt. subst (IsIn j) (whole ∙ sym (append_assoc done (n ∷ []) ns)) (perm.full j lt) in
      let here : (x : ℕ) → IsIn x (z.source_free l) → IsIn x (source_operands z form (n ∷ ns)) =
      λ x i. in-left x (free_of_numbers (source z) (operands form) (n ∷ ns)) _
      (in-left x (T.free_of_tree (source z) (tree_at (operands form) n)) _ (subst (λ t. IsIn x (T.free_of_tree (source z) t)) (sym ea) i)) in
      Simple.goes-point z w c d g _ _ _ _ es
      (Rel.making lifts refl
      (scope-cut z w (z.source_free l) (λ x i. i) (scope-sub z w (λ x i. h x (here x i)) env.scope))
      (Rel.let_frame
      (Rel.operand_next n done ns perm fb whole ko vals
      (env-cut z w env (λ x i. h x (in_source form n ns x i)) (λ y i. k y (in_target b n ns y i))
      (uses-operands z fits fb (done ++ n ∷ []) ns full))) f))

  -- a node goes on with the operands that are left
  left_over : {i : ℕ} {f b : Form} {ls xs ys : List ℕ} {q r m : Env} {vs us : List Value} (p : Place) (s : ℕ)
      (done rest : List ℕ) (fs hs : Frames) (es : List Event) →
      IsPermutation (numbers (z.line s) f) (count (operands f)) → length (numbers (z.line s) f) ≡ count (operands f) →
      FormBecomes z i f b →
      numbers (z.line s) f ≡ done ++ rest → ValuesRel z w m f done vs us → EnvRel z w ls xs q ys r m →
      ((x : ℕ) → IsIn x (source_operands z f rest) → IsIn x xs) →
      ((y : ℕ) → IsIn y (target_operands z b rest) → IsIn y ys) → FramesRel z w fs hs →
      StateRel z (T.operands_left (target z) c p s b vs r (numbers (z.line s) f) rest fs es)
      (T.operands_left (source z) d p s f us q (numbers (z.line s) f) rest hs es)
  left_over {f = form} {m = m} {vs = vs} {us = us} p s done [] fs hs es perm long fb whole vals env h k f =
      let same : numbers (z.line s) form ≡ done = whole ∙ append-nil done in
      let all = arranged-related z w m 0 (length (numbers (z.line s) form)) (subst (λ ns. ValuesRel z w m form ns vs us) (sym same) vals)
      (λ j lt. perm.full j (omega (arith, long))) in
      completes p fs hs es fb all.0 (all.1 ∙ long) env h k f
  left_over {f = form} {b = b} p s done (n ∷ ns) fs hs es perm long fb whole vals env h k f =
      operand_of p s done n ns fs hs es (kind z form n) (tree_at (operands form) n) (tree_at (operands b) n) refl refl refl
      (operand-at z fb n) perm fb whole vals env h k f

  pub continues : {i : ℕ} {f b : Form} {ls xs ys : List ℕ} {q r m : Env} {vs us : List Value} (p : Place) (s : ℕ)
      (done rest : List ℕ) (fs hs : Frames) (es : List Event) →
      IsPermutation (numbers (z.line s) f) (count (operands f)) → FormBecomes z i f b →
      numbers (z.line s) f ≡ done ++ rest → ValuesRel z w m f done vs us → EnvRel z w ls xs q ys r m →
      ((x : ℕ) → IsIn x (source_operands z f rest) → IsIn x xs) →
      ((y : ℕ) → IsIn y (target_operands z b rest) → IsIn y ys) → FramesRel z w fs hs →
      StateRel z (T.continue (target z) c p s b vs r fs es) (T.continue (source z) d p s f us q hs es)
  continues {f = form} {b = b} {q = q} {r = r} {vs = vs} {us = us} p s done rest fs hs es perm fb whole vals env h k f =
      let all = numbers (z.line s) form in
      let long = values-long z w _ vals in
      let drops : (n : ℕ) → n ≡ length done → drop n all ≡ rest =
      λ n e. ap (λ j. drop j all) e ∙ (ap (drop (length done)) whole ∙ drop-front done rest) in
      subst (λ ns. StateRel z (T.operands_left (target z) c p s b vs r ns (drop (length vs) ns) fs es)
      (T.operands_left (source z) d p s form us q all (drop (length us) all) hs es)) (sym (numbers-same z fb (z.line s)))
      (subst₂ (λ ks js. StateRel z (T.operands_left (target z) c p s b vs r all ks fs es)
      (T.operands_left (source z) d p s form us q all js hs es)) (sym (drops (length vs) long.0)) (sym (drops (length us) long.1))
      (left_over p s done rest fs hs es perm (permutation-length all (count (operands form)) perm) fb whole vals env h k f))
