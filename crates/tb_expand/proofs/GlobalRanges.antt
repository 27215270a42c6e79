-- The numbers of globals are in range: each global of a text is among the first occurrences.
use Rattle.std.proofs.Common.{◌≡◌, refl, sym, ap, subst, ◌∙◌, ℕ, ◌||◌, Bool, true, false, cond, List, [], ◌∷◌, ◌++◌, length, bytes_eq}
use Rattle.std.specs.List.{list_any}
use Rattle.std.proofs.lemmas.List.{length-map}
use Rattle.std.proofs.lemmas.List.Folds.{list_any-append}
use Rattle.std.proofs.lemmas.Slice.Eq.{bytes_eq-Decides}
use Rattle.tb_prim.specs.declared.place.Place.{Place}
use Rattle.tb_core.specs.Tree.{Form, LambdaTree}
use Rattle.tb_core.specs.Rules.{Every, Each, EachForm, EachAll}
use Rattle.tb_expand.specs.Trees.{Node, At, Core, Constant, Unspecified, Undefined, Local, Global, Lambda, If, SetLocal, SetGlobal, DefGlobal, Let, Letrec, Seq, Call, PrimUse, Apply, Nodes, nil, cons}
use Rattle.tb_expand.specs.Numbers.{Tables, Before, noted, firsts_behind, globals_of, globals_in, globals_of_all, global_name, behind_node, behind_nodes, behind_values, one_node, one_closure, numbered, numbered_in, numbered_all, lambdas_of, lambdas_in, lambdas_of_all, lambdas_of_values, tables_of, none_before, program_of}
use Rattle.tb_expand.specs.Ranges.{GlobalIn}
use Rattle.tb_expand.proofs.StaticObjects.{found_below}
use Rattle.tb_expand.proofs.ShapedNumbers.{every_joined}

-- what is among the first occurrences
or_left : (a b : Bool) → a ≡ true → (a || b) ≡ true
or_left a b e = ap (λ v. v || b) e

or_right : (a b : Bool) → b ≡ true → (a || b) ≡ true
or_right true b e = refl
or_right false b e = e

noted_by : (xs : List (List ℕ)) (x : List ℕ) (b : Bool) → list_any (bytes_eq x) xs ≡ b → list_any (bytes_eq x) (cond b xs (xs ++ (x ∷ []))) ≡ true
noted_by xs x true e = e
noted_by xs x false e = list_any-append (bytes_eq x) xs (x ∷ []) ∙ or_right (list_any (bytes_eq x) xs) (list_any (bytes_eq x) (x ∷ [])) (or_left (bytes_eq x x) false ((bytes_eq-Decides x x).1 refl))

noted_there : (xs : List (List ℕ)) (x : List ℕ) → list_any (bytes_eq x) (noted bytes_eq xs x) ≡ true
noted_there xs x = noted_by xs x (list_any (bytes_eq x) xs) refl

noted_stays_by : (xs : List (List ℕ)) (x y : List ℕ) (b : Bool) → list_any (bytes_eq y) xs ≡ true → list_any (bytes_eq y) (cond b xs (xs ++ (x ∷ []))) ≡ true
noted_stays_by xs x y true h = h
noted_stays_by xs x y false h = list_any-append (bytes_eq y) xs (x ∷ []) ∙ or_left (list_any (bytes_eq y) xs) (list_any (bytes_eq y) (x ∷ [])) h

firsts_stay : (xs ys : List (List ℕ)) (y : List ℕ) → list_any (bytes_eq y) xs ≡ true → list_any (bytes_eq y) (firsts_behind bytes_eq xs ys) ≡ true
firsts_stay xs [] y h = h
firsts_stay xs (z ∷ ys) y h = firsts_stay (noted bytes_eq xs z) ys y (noted_stays_by xs z y (list_any (bytes_eq z) xs) h)

abbrev IsKnown : List (List ℕ) → List ℕ → Type 0
IsKnown gs g = list_any (bytes_eq g) gs ≡ true

firsts_hold : (xs ys : List (List ℕ)) → Every (IsKnown (firsts_behind bytes_eq xs ys)) ys
firsts_hold xs [] = tt
firsts_hold xs (y ∷ ys) = (firsts_stay (noted bytes_eq xs y) ys y (noted_there xs y), firsts_hold (noted bytes_eq xs y) ys)

every_left : {X : Type 0} (P : X → Type 0) (xs ys : List X) → Every P (xs ++ ys) → Every P xs
every_left P [] ys h = tt
every_left P (x ∷ xs) ys h = (h.0, every_left P xs ys h.1)

every_right : {X : Type 0} (P : X → Type 0) (xs ys : List X) → Every P (xs ++ ys) → Every P ys
every_right P [] ys h = h
every_right P (x ∷ xs) ys h = every_right P xs ys h.1

-- nodes whose globals are known
abbrev pub InRange : ℕ → ℕ → Form → Type 0
InRange n s f = GlobalIn n f

abbrev pub LambdaInRange : ℕ → LambdaTree → Type 0
LambdaInRange n l = Each (InRange n) l.body

abbrev Known : Tables → List (List ℕ) → Type 0
Known t gs = Every (IsKnown t.globals) gs

left : (t : Tables) (xs ys : List (List ℕ)) → Known t (xs ++ ys) → Known t xs
left t xs ys h = every_left (IsKnown t.globals) xs ys h

right : (t : Tables) (xs ys : List (List ℕ)) → Known t (xs ++ ys) → Known t ys
right t xs ys h = every_right (IsKnown t.globals) xs ys h

form_in : (t : Tables) (b : Before) (c : Core) → Known t (globals_in c) → GlobalIn (length t.globals) (numbered_in t b c)
form_in t b (Constant s) h = tt
form_in t b Unspecified h = tt
form_in t b Undefined h = tt
form_in t b (Local x) h = tt
form_in t b (Global g) h = found_below (bytes_eq g) t.globals h.0
form_in t b (Lambda xs r e) h = tt
form_in t b (If a c d) h = tt
form_in t b (SetLocal x e) h = tt
form_in t b (SetGlobal q g e) h = found_below (bytes_eq g) t.globals h.0
form_in t b (DefGlobal g e) h = found_below (bytes_eq g) t.globals h.0
form_in t b (Let xs es e) h = tt
form_in t b (Letrec xs es e) h = tt
form_in t b (Seq es) h = tt
form_in t b (Call f es) h = tt
form_in t b (PrimUse q es) h = tt
form_in t b (Apply f l) h = tt

mutual
  node_in : (t : Tables) (b : Before) (e : Node) → Known t (globals_of e) → Each (InRange (length t.globals)) (numbered t b e)
  node_in t b (At p c) h = (form_in t (one_node b) c h, parts_in t (one_node b) c h)

  parts_in : (t : Tables) (b : Before) (c : Core) → Known t (globals_in c) → EachForm (InRange (length t.globals)) (numbered_in t b c)
  parts_in t b (Constant s) h = tt
  parts_in t b Unspecified h = tt
  parts_in t b Undefined h = tt
  parts_in t b (Local x) h = tt
  parts_in t b (Global g) h = tt
  parts_in t b (Lambda xs r e) h = tt
  parts_in t b (If a c d) h =
      let k = right t (globals_of a) (globals_of c ++ globals_of d) h in
      (node_in t b a (left t (globals_of a) (globals_of c ++ globals_of d) h), node_in t (behind_node b a) c (left t (globals_of c) (globals_of d) k), node_in t (behind_node (behind_node b a) c) d (right t (globals_of c) (globals_of d) k))
  parts_in t b (SetLocal x e) h = node_in t b e h
  parts_in t b (SetGlobal q g e) h = node_in t b e h.1
  parts_in t b (DefGlobal g e) h = node_in t b e h.1
  parts_in t b (Let xs es e) h = (nodes_in t b es (left t (globals_of_all es) (globals_of e) h), node_in t (behind_nodes b es) e (right t (globals_of_all es) (globals_of e) h))
  parts_in t b (Letrec xs es e) h = node_in t (behind_values b es) e (right t (globals_of_all es) (globals_of e) h)
  parts_in t b (Seq es) h = nodes_in t b es h
  parts_in t b (Call f es) h = (node_in t b f (left t (globals_of f) (globals_of_all es) h), nodes_in t (behind_node b f) es (right t (globals_of f) (globals_of_all es) h))
  parts_in t b (PrimUse q es) h = nodes_in t b es h
  parts_in t b (Apply f l) h = (node_in t b f (left t (globals_of f) (globals_of l) h), node_in t (behind_node b f) l (right t (globals_of f) (globals_of l) h))

  nodes_in : (t : Tables) (b : Before) (es : Nodes) → Known t (globals_of_all es) → EachAll (InRange (length t.globals)) (numbered_all t b es)
  nodes_in t b nil h = tt
  nodes_in t b (cons e es) h = (node_in t b e (left t (globals_of e) (globals_of_all es) h), nodes_in t (behind_node b e) es (right t (globals_of e) (globals_of_all es) h))

mutual
  lambdas_within : (t : Tables) (b : Before) (e : Node) → Known t (globals_of e) → Every (LambdaInRange (length t.globals)) (lambdas_of t b e)
  lambdas_within t b (At p c) h = lambdas_at t (one_node b) p c h

  lambdas_at : (t : Tables) (b : Before) (p : Place) (c : Core) → Known t (globals_in c) → Every (LambdaInRange (length t.globals)) (lambdas_in t b p c)
  lambdas_at t b p (Constant s) h = tt
  lambdas_at t b p Unspecified h = tt
  lambdas_at t b p Undefined h = tt
  lambdas_at t b p (Local x) h = tt
  lambdas_at t b p (Global g) h = tt
  lambdas_at t b p (Lambda xs r e) h = (node_in t (one_closure b) e h, lambdas_within t (one_closure b) e h)
  lambdas_at t b p (If a c d) h =
      let k = right t (globals_of a) (globals_of c ++ globals_of d) h in
      every_joined (LambdaInRange (length t.globals)) _ _ (lambdas_within t b a (left t (globals_of a) (globals_of c ++ globals_of d) h))
      (every_joined (LambdaInRange (length t.globals)) _ _ (lambdas_within t (behind_node b a) c (left t (globals_of c) (globals_of d) k)) (lambdas_within t (behind_node (behind_node b a) c) d (right t (globals_of c) (globals_of d) k)))
  lambdas_at t b p (SetLocal x e) h = lambdas_within t b e h
  lambdas_at t b p (SetGlobal q g e) h = lambdas_within t b e h.1
  lambdas_at t b p (DefGlobal g e) h = lambdas_within t b e h.1
  lambdas_at t b p (Let xs es e) h =
      every_joined (LambdaInRange (length t.globals)) _ _ (lambdas_all t b es (left t (globals_of_all es) (globals_of e) h)) (lambdas_within t (behind_nodes b es) e (right t (globals_of_all es) (globals_of e) h))
  lambdas_at t b p (Letrec xs es e) h =
      every_joined (LambdaInRange (length t.globals)) _ _ (lambdas_values t b es (left t (globals_of_all es) (globals_of e) h)) (lambdas_within t (behind_values b es) e (right t (globals_of_all es) (globals_of e) h))
  lambdas_at t b p (Seq es) h = lambdas_all t b es h
  lambdas_at t b p (Call f es) h =
      every_joined (LambdaInRange (length t.globals)) _ _ (lambdas_within t b f (left t (globals_of f) (globals_of_all es) h)) (lambdas_all t (behind_node b f) es (right t (globals_of f) (globals_of_all es) h))
  lambdas_at t b p (PrimUse q es) h = lambdas_all t b es h
  lambdas_at t b p (Apply f l) h =
      every_joined (LambdaInRange (length t.globals)) _ _ (lambdas_within t b f (left t (globals_of f) (globals_of l) h)) (lambdas_within t (behind_node b f) l (right t (globals_of f) (globals_of l) h))

  lambdas_all : (t : Tables) (b : Before) (es : Nodes) → Known t (globals_of_all es) → Every (LambdaInRange (length t.globals)) (lambdas_of_all t b es)
  lambdas_all t b nil h = tt
  lambdas_all t b (cons e es) h =
      every_joined (LambdaInRange (length t.globals)) _ _ (lambdas_within t b e (left t (globals_of e) (globals_of_all es) h)) (lambdas_all t (behind_node b e) es (right t (globals_of e) (globals_of_all es) h))

  lambdas_values : (t : Tables) (b : Before) (es : Nodes) → Known t (globals_of_all es) → Every (LambdaInRange (length t.globals)) (lambdas_of_values t b es)
  lambdas_values t b nil h = tt
  lambdas_values t b (cons (At p c) es) h =
      every_joined (LambdaInRange (length t.globals)) _ _ (lambdas_at t b p c (left t (globals_in c) (globals_of_all es) h)) (lambdas_values t (behind_values b (cons (At p c) nil)) es (right t (globals_in c) (globals_of_all es) h))

globals_counted : (library : Bool) (es : Nodes) → length (program_of library es).globals ≡ length (tables_of es).globals
unfolding program_of
globals_counted library es = length-map (tables_of es).globals (global_name library)

plain_forms : (library : Bool) (es : Nodes) → EachAll (InRange (length (tables_of es).globals)) (program_of library es).forms
unfolding program_of
plain_forms library es = nodes_in (tables_of es) none_before es (firsts_hold [] (globals_of_all es))

plain_lambdas : (library : Bool) (es : Nodes) → Every (LambdaInRange (length (tables_of es).globals)) (program_of library es).lambdas
unfolding program_of
plain_lambdas library es = lambdas_all (tables_of es) none_before es (firsts_hold [] (globals_of_all es))

pub forms_in_range : (library : Bool) (es : Nodes) → EachAll (InRange (length (program_of library es).globals)) (program_of library es).forms
forms_in_range library es = subst (λ n. EachAll (InRange n) (program_of library es).forms) (sym (globals_counted library es)) (plain_forms library es)

pub all_lambdas_in_range : (library : Bool) (es : Nodes) → Every (LambdaInRange (length (program_of library es).globals)) (program_of library es).lambdas
all_lambdas_in_range library es = subst (λ n. Every (LambdaInRange n) (program_of library es).lambdas) (sym (globals_counted library es)) (plain_lambdas library es)
