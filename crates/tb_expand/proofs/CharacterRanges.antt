-- The characters of a numbered program are bytes, where those of its text are.
use Rattle.std.proofs.Common.{◌≡◌, ℕ, ◌<◌, arith, Bool, true, false, List, [], ◌∷◌}
use Rattle.tb_prim.specs.declared.place.Place.{Place}
use Rattle.tb_prim.specs.declared.constant.Static.{Static}
use Rattle.std.specs.List.{list_any}
use Rattle.tb_core.specs.Tree.{Form, LambdaTree}
use Rattle.tb_core.specs.Rules.{Every, Each, EachForm, EachAll}
use Rattle.tb_sexp.specs.Tree as datum
use Rattle.tb_sexp.specs.Bytes.{is_identifier}
use Rattle.tb_sexp.specs.ReadData.{IsReadName, IsRead, AreRead, read_nil, read_truth, read_fixnum, read_character, read_string, read_name, read_list, read_dotted, read_vector, no_read, more_read}
use Rattle.tb_expand.specs.Trees.{Node, At, Core, Constant, Unspecified, Undefined, Local, Global, Lambda, If, SetLocal, SetGlobal, DefGlobal, Let, Letrec, Seq, Call, PrimUse, Apply, Nodes, nil, cons}
use Rattle.tb_expand.specs.Numbers.{Tables, Before, placed, placed_in, placed_symbol, is_symbol, behind_node, behind_nodes, behind_values, one_node, one_closure, numbered, numbered_in, numbered_all, lambdas_of, lambdas_in, lambdas_of_all, lambdas_of_values, tables_of, none_before, program_of}
use Rattle.tb_expand.specs.Constants.{CharacterKeeps, CharacterIn}
use Rattle.tb_expand.specs.Ranges.{IsLong}
use Rattle.tb_expand.specs.Texts.{MeansText}
use Rattle.tb_expand.proofs.LongNames.{AreLong, AreLongIn, AllLong, Long, LongIn, LongNodes, text_long}
use Rattle.tb_expand.proofs.ShapedNumbers.{every_joined}

abbrev IsByte : ℕ → Type 0
IsByte c = c < 256

-- data that were read
name_long : (s : List ℕ) → IsReadName s → IsLong s
name_long [] h = let e : is_identifier [] ≡ true = h.identifier in absurd cc
name_long (c ∷ s) h = (omega arith, h.short)

mutual
  read_long : {n : ℕ} {d : datum.Tree} → IsRead n d → AreLong IsByte d
  read_long read_nil = tt
  read_long read_truth = tt
  read_long (read_fixnum h) = tt
  read_long (read_character h) = h
  read_long (read_string h k) = tt
  read_long (read_name {s = s} h) = name_long s h
  read_long (read_list h) = all_read_long h
  read_long (read_dotted h k n) = (all_read_long h, read_long k)
  read_long (read_vector h) = all_read_long h

  all_read_long : {n : ℕ} {ds : datum.Trees} → AreRead n ds → AllLong IsByte ds
  all_read_long no_read = tt
  all_read_long (more_read h k) = (read_long h, all_read_long k)

-- constants
symbol_kept : (b : Bool) (o : List Static) (s : List ℕ) → CharacterKeeps (placed_symbol b o s).constant
symbol_kept true o s = tt
symbol_kept false o s = tt

mutual
  datum_kept : (o : List Static) (d : datum.Tree) → AreLong IsByte d → CharacterKeeps (placed o d).constant
  datum_kept o (datum.At p s) h = shape_kept o s h

  shape_kept : (o : List Static) (s : datum.Shape) → AreLongIn IsByte s → CharacterKeeps (placed_in o s).constant
  shape_kept o datum.Nil h = tt
  shape_kept o (datum.Truth b) h = tt
  shape_kept o (datum.Fixnum n) h = tt
  shape_kept o (datum.Character c) h = h
  shape_kept o (datum.String s) h = tt
  shape_kept o (datum.Name s alias) h = symbol_kept (list_any (is_symbol s) o) o s
  shape_kept o (datum.Proper datum.none) h = tt
  shape_kept o (datum.Proper (datum.more d ds)) h = tt
  shape_kept o (datum.Dotted datum.none d) h = datum_kept o d h.1
  shape_kept o (datum.Dotted (datum.more e ds) d) h = tt
  shape_kept o (datum.Vector ds) h = tt

abbrev Byte : ℕ → Form → Type 0
Byte s f = CharacterIn f

abbrev LambdaBytes : LambdaTree → Type 0
LambdaBytes l = Each Byte l.body

form_kept : (t : Tables) (b : Before) (c : Core) → LongIn IsByte c → CharacterIn (numbered_in t b c)
form_kept t b (Constant s) h = shape_kept b.statics s h
form_kept t b Unspecified h = tt
form_kept t b Undefined h = tt
form_kept t b (Local x) h = tt
form_kept t b (Global g) h = tt
form_kept t b (Lambda xs r e) h = tt
form_kept t b (If a c d) h = tt
form_kept t b (SetLocal x e) h = tt
form_kept t b (SetGlobal q g e) h = tt
form_kept t b (DefGlobal g e) h = tt
form_kept t b (Let xs es e) h = tt
form_kept t b (Letrec xs es e) h = tt
form_kept t b (Seq es) h = tt
form_kept t b (Call f es) h = tt
form_kept t b (PrimUse q es) h = tt
form_kept t b (Apply f l) h = tt

mutual
  node_kept : (t : Tables) (b : Before) (e : Node) → Long IsByte e → Each Byte (numbered t b e)
  node_kept t b (At p c) h = (form_kept t (one_node b) c h, parts_kept t (one_node b) c h)

  parts_kept : (t : Tables) (b : Before) (c : Core) → LongIn IsByte c → EachForm Byte (numbered_in t b c)
  parts_kept t b (Constant s) h = tt
  parts_kept t b Unspecified h = tt
  parts_kept t b Undefined h = tt
  parts_kept t b (Local x) h = tt
  parts_kept t b (Global g) h = tt
  parts_kept t b (Lambda xs r e) h = tt
  parts_kept t b (If a c d) h = (node_kept t b a h.0, node_kept t (behind_node b a) c h.1, node_kept t (behind_node (behind_node b a) c) d h.2)
  parts_kept t b (SetLocal x e) h = node_kept t b e h
  parts_kept t b (SetGlobal q g e) h = node_kept t b e h.1
  parts_kept t b (DefGlobal g e) h = node_kept t b e h.1
  parts_kept t b (Let xs es e) h = (nodes_kept t b es h.0, node_kept t (behind_nodes b es) e h.1)
  parts_kept t b (Letrec xs es e) h = node_kept t (behind_values b es) e h.1
  parts_kept t b (Seq es) h = nodes_kept t b es h
  parts_kept t b (Call f es) h = (node_kept t b f h.0, nodes_kept t (behind_node b f) es h.1)
  parts_kept t b (PrimUse q es) h = nodes_kept t b es h
  parts_kept t b (Apply f l) h = (node_kept t b f h.0, node_kept t (behind_node b f) l h.1)

  nodes_kept : (t : Tables) (b : Before) (es : Nodes) → LongNodes IsByte es → EachAll Byte (numbered_all t b es)
  nodes_kept t b nil h = tt
  nodes_kept t b (cons e es) h = (node_kept t b e h.0, nodes_kept t (behind_node b e) es h.1)

mutual
  lambdas_kept : (t : Tables) (b : Before) (e : Node) → Long IsByte e → Every LambdaBytes (lambdas_of t b e)
  lambdas_kept t b (At p c) h = lambdas_kept_in t (one_node b) p c h

  lambdas_kept_in : (t : Tables) (b : Before) (p : Place) (c : Core) → LongIn IsByte c → Every LambdaBytes (lambdas_in t b p c)
  lambdas_kept_in t b p (Constant s) h = tt
  lambdas_kept_in t b p Unspecified h = tt
  lambdas_kept_in t b p Undefined h = tt
  lambdas_kept_in t b p (Local x) h = tt
  lambdas_kept_in t b p (Global g) h = tt
  lambdas_kept_in t b p (Lambda xs r e) h = (node_kept t (one_closure b) e h, lambdas_kept t (one_closure b) e h)
  lambdas_kept_in t b p (If a c d) h =
      every_joined LambdaBytes _ _ (lambdas_kept t b a h.0)
      (every_joined LambdaBytes _ _ (lambdas_kept t (behind_node b a) c h.1) (lambdas_kept t (behind_node (behind_node b a) c) d h.2))
  lambdas_kept_in t b p (SetLocal x e) h = lambdas_kept t b e h
  lambdas_kept_in t b p (SetGlobal q g e) h = lambdas_kept t b e h.1
  lambdas_kept_in t b p (DefGlobal g e) h = lambdas_kept t b e h.1
  lambdas_kept_in t b p (Let xs es e) h = every_joined LambdaBytes _ _ (lambdas_kept_all t b es h.0) (lambdas_kept t (behind_nodes b es) e h.1)
  lambdas_kept_in t b p (Letrec xs es e) h = every_joined LambdaBytes _ _ (lambdas_kept_values t b es h.0) (lambdas_kept t (behind_values b es) e h.1)
  lambdas_kept_in t b p (Seq es) h = lambdas_kept_all t b es h
  lambdas_kept_in t b p (Call f es) h = every_joined LambdaBytes _ _ (lambdas_kept t b f h.0) (lambdas_kept_all t (behind_node b f) es h.1)
  lambdas_kept_in t b p (PrimUse q es) h = lambdas_kept_all t b es h
  lambdas_kept_in t b p (Apply f l) h = every_joined LambdaBytes _ _ (lambdas_kept t b f h.0) (lambdas_kept t (behind_node b f) l h.1)

  lambdas_kept_all : (t : Tables) (b : Before) (es : Nodes) → LongNodes IsByte es → Every LambdaBytes (lambdas_of_all t b es)
  lambdas_kept_all t b nil h = tt
  lambdas_kept_all t b (cons e es) h = every_joined LambdaBytes _ _ (lambdas_kept t b e h.0) (lambdas_kept_all t (behind_node b e) es h.1)

  lambdas_kept_values : (t : Tables) (b : Before) (es : Nodes) → LongNodes IsByte es → Every LambdaBytes (lambdas_of_values t b es)
  lambdas_kept_values t b nil h = tt
  lambdas_kept_values t b (cons (At p c) es) h = every_joined LambdaBytes _ _ (lambdas_kept_in t b p c h.0) (lambdas_kept_values t (behind_values b (cons (At p c) nil)) es h.1)

pub forms_bytes : (library : Bool) (n : ℕ) (ds : datum.Trees) (es : Nodes) → AreRead n ds → MeansText library ds es → EachAll Byte (program_of library es).forms
unfolding program_of
forms_bytes library n ds es h m = nodes_kept (tables_of es) none_before es (text_long IsByte library ds es (all_read_long h) m)

pub lambdas_bytes : (library : Bool) (n : ℕ) (ds : datum.Trees) (es : Nodes) → AreRead n ds → MeansText library ds es → Every LambdaBytes (program_of library es).lambdas
unfolding program_of
lambdas_bytes library n ds es h m = lambdas_kept_all (tables_of es) none_before es (text_long IsByte library ds es (all_read_long h) m)
