-- What a list is as an expression, by its elements in a row.
use Rattle.std.proofs.Common.{◌≡◌, ◌≢◌, refl, sym, ap, ◌∙◌, arith, Bool, false, cond, ◌==◌, List, [], ◌∷◌, length}
use Rattle.std.proofs.lemmas.Bool.{eq-eqb, ne_eqb}
use Rattle.tb_prim.specs.declared.place.Place.{Place}
use Rattle.tb_prim.specs.declared.primitive.Primitive.{Primitive}
use Rattle.tb_prim.specs.Primitives.{arity_of}
use Rattle.tb_sexp.specs.declared.datum.Datum.{Datum}
use Rattle.tb_sexp.specs.Tree as datum
use Rattle.tb_expand.specs.declared.context.Context.{Context}
use Rattle.tb_expand.specs.Scopes.{State}
use Rattle.tb_expand.specs.Words.{is_of_many}
use Rattle.tb_expand.specs.Limits.{how_many_data}
use Rattle.tb_expand.specs.Shapes.{begin_parts}
use Rattle.tb_expand.specs.Expressions.{Wrong, Operands, Sequence, Using, misused, place_of, primitive_use, of_parts}
use Rattle.tb_sexp.specs.View as data_view
use Rattle.tb_sexp.specs.declared.datum.Node.TheFolds.{fold_out-Datum}
use Rattle.tb_expand.specs.Refusals.{NotBuilt}
use Rattle.tb_expand.specs.View.{data_of}

pub sequence_read : (st : State) (c : Context) (p : Place) (ds : List Datum) → false ≡ (length ds == 0) → of_parts st c p (begin_parts (data_of ds)) ≡ Sequence (data_of ds)
sequence_read st c p [] h = cc
sequence_read st c p (x ∷ ds) h = refl

pub how_many : (ds : List Datum) → how_many_data (data_of ds) ≡ length ds
how_many [] = refl
how_many (d ∷ ds) = let h = how_many ds in omega arith

pub used : (p : Place) (h : datum.Tree) (ds : List Datum) (q : Primitive) → length ds ≡ arity_of q → primitive_use p h (data_of ds) q ≡ Operands (Using q) (data_of ds)
used p h ds q e = ap (λ b. cond b (Operands (Using q) (data_of ds)) (misused p h (is_of_many q))) (eq-eqb (how_many_data (data_of ds)) (arity_of q) (how_many ds ∙ e))

pub not_used : (p : Place) (h : datum.Tree) (ds : List Datum) (q : Primitive) (b : Bool) → length ds ≢ arity_of q → is_of_many q ≡ b → primitive_use p h (data_of ds) q ≡ misused p h b
not_used p h ds q b n e =
    ap (λ b. cond b (Operands (Using q) (data_of ds)) (misused p h (is_of_many q))) (ne_eqb (how_many_data (data_of ds)) (arity_of q) (λ z. n (sym (how_many ds) ∙ z))) ∙ ap (misused p h) e

pub view_datum : (d : Datum) → data_view.view d ≡ datum.At d.place (data_view.view_node d.node)
view_datum d = fold_out-Datum datum.Shape datum.Tree data_view.view_in data_view.view_at d

pub not_used_at : (p : Place) (d : Datum) (ds : List Datum) (q : Primitive) → length ds ≢ arity_of q → is_of_many q ≡ false →
    primitive_use p (data_view.view d) (data_of ds) q ≡ Wrong (NotBuilt d.place)
not_used_at p d ds q n e = not_used p (data_view.view d) ds q false n e ∙ ap (λ t. Wrong (NotBuilt (place_of t))) (view_datum d)

pub place_viewed : (d : Datum) → place_of (data_view.view d) ≡ d.place
place_viewed d = ap place_of (view_datum d)
