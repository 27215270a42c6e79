-- The globals of a numbered program are those that its nodes name, and no more than there are nodes.
use Rattle.std.proofs.Common.{◌≡◌, refl, ℕ, ◌+◌, ◌≤◌, arith, Bool, true, false, cond, List, [], ◌∷◌, ◌++◌, length, length-append, map, bytes_eq}
use Rattle.std.specs.List.{list_any}
use Rattle.std.proofs.lemmas.List.{length-map}
use Rattle.std.proofs.lemmas.Slice.Eq.{bytes_eq-Decides}
use Rattle.tb_prim.specs.declared.constant.GlobalName.{GlobalName}
use Rattle.tb_core.specs.Rules.{Every}
use Rattle.tb_sexp.specs.Tree as datum
use Rattle.tb_expand.specs.Trees.{Node, At, Core, Constant, Unspecified, Undefined, Local, Global, Lambda, If, SetLocal, SetGlobal, DefGlobal, Let, Letrec, Seq, Call, PrimUse, Apply, Nodes, nil, cons}
use Rattle.tb_expand.specs.Numbers.{noted, firsts_behind, globals_of, globals_in, globals_of_all, global_name, nodes, nodes_in, nodes_of_all, nodes_of_values, tables_of, program_of}
use Rattle.tb_expand.specs.Ranges.{IsNamed}
use Rattle.tb_expand.specs.Texts.{MeansText}
use Rattle.tb_expand.specs.WellShaped.{AreLambdas, HasShape, HasShapeIn, HaveShape}
use Rattle.tb_expand.proofs.FirstOccurrences.{or_left, or_right}
use Rattle.tb_expand.proofs.NamedVariables.{every_mapped}
use Rattle.tb_expand.proofs.ShapedNumbers.{every_joined}
use Rattle.tb_expand.proofs.ShapedMeanings.{text_shaped}
use Rattle.tb_expand.proofs.CountedMeanings.{few_nodes}

mutual
  node_names : (e : Node) → HasShape e → length (globals_of e) ≤ nodes e
  node_names (At p c) h = let k = core_names c h in omega arith

  -- a node names one global itself at most
  core_names : (c : Core) → HasShapeIn c → length (globals_in c) ≤ 1 + nodes_in c
  core_names (Constant s) h = omega arith
  core_names Unspecified h = omega arith
  core_names Undefined h = omega arith
  core_names (Local x) h = omega arith
  core_names (Global g) h = omega arith
  core_names (Lambda xs r b) h = let k = node_names b h in omega arith
  core_names (If a b c) h =
      let i = node_names a h.0 in
      let j = node_names b h.1 in
      let k = node_names c h.2 in
      let u = length-append (globals_of a) (globals_of b ++ globals_of c) in
      let v = length-append (globals_of b) (globals_of c) in
      omega arith
  core_names (SetLocal x e) h = let k = node_names e h in omega arith
  core_names (SetGlobal q g e) h = let k = node_names e h in omega arith
  core_names (DefGlobal g e) h = let k = node_names e h in omega arith
  core_names (Let xs es e) h =
      let i = all_names es h.1 in
      let j = node_names e h.2 in
      let u = length-append (globals_of_all es) (globals_of e) in
      omega arith
  core_names (Letrec xs es e) h =
      let i = values_names es h.1 h.2 in
      let j = node_names e h.3 in
      let u = length-append (globals_of_all es) (globals_of e) in
      omega arith
  core_names (Seq es) h = let k = all_names es h.1 in omega arith
  core_names (Call f es) h =
      let i = node_names f h.0 in
      let j = all_names es h.1 in
      let u = length-append (globals_of f) (globals_of_all es) in
      omega arith
  core_names (PrimUse q es) h = let k = all_names es h.1 in omega arith
  core_names (Apply f l) h =
      let i = node_names f h.0 in
      let j = node_names l h.1 in
      let u = length-append (globals_of f) (globals_of l) in
      omega arith

  all_names : (es : Nodes) → HaveShape es → length (globals_of_all es) ≤ nodes_of_all es
  all_names nil h = omega arith
  all_names (cons e es) h =
      let i = node_names e h.0 in
      let j = all_names es h.1 in
      let u = length-append (globals_of e) (globals_of_all es) in
      omega arith

  values_names : (es : Nodes) → AreLambdas es → HaveShape es → length (globals_of_all es) ≤ nodes_of_values es
  values_names nil l h = omega arith
  values_names (cons (At p (Lambda xs r b)) es) l h =
      let i = node_names b h.0 in
      let j = values_names es l.1 h.1 in
      let u = length-append (globals_of b) (globals_of_all es) in
      omega arith
  values_names (cons (At p c) es) l h = absurd (no_value l.0)
    where
      no_value : false ≡ true → ⊥
      no_value e = cc

noted_most : (xs : List (List ℕ)) (x : List ℕ) (b : Bool) → length (cond b xs (xs ++ x ∷ [])) ≤ length xs + 1
noted_most xs x true = omega arith
noted_most xs x false = let h = length-append xs (x ∷ []) in omega arith

firsts_most : (xs ys : List (List ℕ)) → length (firsts_behind bytes_eq xs ys) ≤ length xs + length ys
firsts_most xs [] = omega arith
firsts_most xs (y ∷ ys) =
    let h = firsts_most (noted bytes_eq xs y) ys in
    let k = noted_most xs y (list_any (bytes_eq y) xs) in
    omega arith

globals_counted : (library : Bool) (es : Nodes) → length (program_of library es).globals ≡ length (firsts_behind bytes_eq [] (globals_of_all es))
unfolding program_of
globals_counted library es = length-map (tables_of es).globals (global_name library)

pub few_globals : (library : Bool) (ds : datum.Trees) (es : Nodes) → MeansText library ds es → length (program_of library es).globals ≤ 1000000
few_globals library ds es m =
    let n = globals_counted library es in
    let k = firsts_most [] (globals_of_all es) in
    let j = all_names es (text_shaped library ds es m) in
    let l = few_nodes library ds es m in
    omega arith

-- each is one that a node names
noted_keep : (P : List ℕ → Type 0) (xs : List (List ℕ)) (x : List ℕ) (b : Bool) → Every P xs → P x → Every P (cond b xs (xs ++ x ∷ []))
noted_keep P xs x true h k = h
noted_keep P xs x false h k = every_joined P xs (x ∷ []) h (k, tt)

pub firsts_keep : (P : List ℕ → Type 0) (xs ys : List (List ℕ)) → Every P xs → Every P ys → Every P (firsts_behind bytes_eq xs ys)
firsts_keep P xs [] h k = h
firsts_keep P xs (z ∷ ys) h k = firsts_keep P (noted bytes_eq xs z) ys (noted_keep P xs z (list_any (bytes_eq z) xs) h k.0) k.1

own_named : (gs : List (List ℕ)) → Every (λ g. list_any (bytes_eq g) gs ≡ true) gs
own_named [] = tt
own_named (g ∷ gs) = (
  or_left (bytes_eq g g) (list_any (bytes_eq g) gs) ((bytes_eq-Decides g g).1 refl),
  every_mapped (λ h. list_any (bytes_eq h) gs ≡ true) (λ h. list_any (bytes_eq h) (g ∷ gs) ≡ true) (λ h e. or_right (bytes_eq h g) (list_any (bytes_eq h) gs) e) gs (own_named gs),
)

pub every_name : (P : GlobalName → Type 0) (Q : List ℕ → Type 0) (library : Bool) → ((g : List ℕ) → Q g → P (global_name library g)) → (gs : List (List ℕ)) → Every Q gs → Every P (map (global_name library) gs)
every_name P Q library f [] h = tt
every_name P Q library f (g ∷ gs) h = (f g h.0, every_name P Q library f gs h.1)

pub globals_named : (library : Bool) (es : Nodes) → Every (IsNamed library es) (program_of library es).globals
unfolding program_of
globals_named library es =
    every_name (IsNamed library es) (λ g. list_any (bytes_eq g) (globals_of_all es) ≡ true) library (λ g e. (refl, e)) (tables_of es).globals
    (firsts_keep (λ g. list_any (bytes_eq g) (globals_of_all es) ≡ true) [] (globals_of_all es) tt (own_named (globals_of_all es)))
