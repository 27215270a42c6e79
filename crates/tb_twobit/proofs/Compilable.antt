-- The program of an accepted text has code.
use Rattle.std.proofs.Common.{◌≡◌, ◌≤◌, refl, sym, subst, ℕ, arith, true, List, [], ◌∷◌, All, length, false, IsOk}
use Rattle.std.proofs.lemmas.Bool.{lt-ltb}
use Rattle.std.proofs.lemmas.List.Elements.{All-cons, All-head, All-tail}
use Rattle.tb_prim.specs.declared.constant.Const.{Const}
use Rattle.tb_prim.specs.declared.constant.GlobalName.{GlobalName}
use Rattle.tb_prim.specs.declared.constant.Static.{Static}
use Rattle.tb_core.specs.Limits.{judge_program}
use Rattle.tb_core.specs.Rules.{Each, EachAll, Every, KeepsRules}
use Rattle.tb_core.specs.Tree.{Form, Quote, Local, Global, Lambda, If, SetLocal, SetGlobal, DefGlobal, Let, Letrec, Seq, Call, PrimUse, Apply, LambdaTree, ProgramTree}
use Rattle.tb_expand.specs.Constants.{CharacterIn, CharacterKeeps}
use Rattle.tb_expand.specs.Numbers.{program_of}
use Rattle.tb_expand.specs.Programs.{IsProgramOf}
use Rattle.tb_expand.specs.Ranges.{IsLong}
use Rattle.tb_expand.specs.StaticWords.{words_of_static, words_of_statics}
use Rattle.tb_expand.specs.Texts.{MeansText}
use Rattle.tb_expand.specs.Trees.{Nodes}
use Rattle.tb_mac.specs.Layout.{static_size, statics_size}
use Rattle.tb_mac.specs.Rules.{NameOk}
use Rattle.tb_assign.specs.Constants.{Passes}
use Rattle.tb_assign.proofs.ReadyFrom.{all-then, each-then}
use Rattle.tb_passes.specs.Compilable.{IsCompilable, is_byte}
use Rattle.tb_sexp.specs.DatumRules.{AreLawful, IsPlainDatum, more_lawful, none_lawful}
use Rattle.tb_sexp.specs.ReadData.{AreRead, IsRead, more_read, no_read}
use Rattle.tb_sexp.specs.Tree as datum
use Rattle.tb_sexp.specs.View as sexp

none_all : {X : Type 0} (P : X → Type 0) → All P []
none_all P k d lt = absurd (omega arith)

-- names that are long are lawful names of code
names_ok : (gs : List GlobalName) → Every (λ (g : GlobalName). IsLong g.name) gs → All NameOk gs
names_ok [] h = none_all NameOk
names_ok (g ∷ gs) h = All-cons NameOk g gs h.0 (names_ok gs h.1)

-- static objects have as many words in the expander's count as in the machine's memory
static_words : (s : Static) → static_size s ≡ words_of_static s
static_words (Static.Pair a b) = omega arith
static_words (Static.Vector cs) = omega arith
static_words (Static.Str bs) = omega arith
static_words (Static.Sym bs) = omega arith

all_words : (ss : List Static) → statics_size ss ≡ words_of_statics ss
all_words [] = refl
all_words (s ∷ ss) = let h = static_words s in let t = all_words ss in omega arith

-- a character that keeps its range passes the test of bytes
byte_passes : (c : Const) → CharacterKeeps c → is_byte c ≡ true
byte_passes (Const.Char c) h = lt-ltb c 256 h
byte_passes (Const.Fix n) h = refl
byte_passes (Const.Bool b) h = refl
byte_passes Const.Nil h = refl
byte_passes Const.Unspecified h = refl
byte_passes Const.Undefined h = refl
byte_passes (Const.Stat n) h = refl

passes : (s : ℕ) (f : Form) → CharacterIn f → Passes is_byte f
passes s (Quote c) h = byte_passes c h
passes s (Local x) h = tt
passes s (Global g) h = tt
passes s (Lambda l) h = tt
passes s (If a b c) h = tt
passes s (SetLocal x e) h = tt
passes s (SetGlobal g e) h = tt
passes s (DefGlobal g e) h = tt
passes s (Let xs es e) h = tt
passes s (Letrec xs ls e) h = tt
passes s (Seq es) h = tt
passes s (Call f es) h = tt
passes s (PrimUse q es) h = tt
passes s (Apply f l) h = tt

every_body : (ls : List LambdaTree) → Every (λ (l : LambdaTree). Each (λ s f. CharacterIn f) l.body) ls →
    Every (λ (l : LambdaTree). Each (λ s f. Passes is_byte f) l.body) ls
every_body [] h = tt
every_body (l ∷ ls) h =
    (each-then (λ s f. CharacterIn f) (λ s f. Passes is_byte f) passes l.body h.0, every_body ls h.1)

are_read : (ds : List datum.Tree) → All (λ d. IsRead 256 d) ds → AreRead 256 (sexp.trees ds)
are_read [] h = no_read
are_read (d ∷ ds) h =
    more_read (All-head (λ e. IsRead 256 e) d ds h) (are_read ds (All-tail (λ e. IsRead 256 e) d ds h))

are_lawful : ((n : ℕ) (d : datum.Tree) → IsRead n d → IsPlainDatum n d) → (ds : List datum.Tree) →
    All (λ d. IsRead 256 d) ds → AreLawful (sexp.trees ds)
are_lawful plain [] h = none_lawful
are_lawful plain (d ∷ ds) h =
    let p = plain 256 d (All-head (λ e. IsRead 256 e) d ds h) in
    more_lawful p.rules (are_lawful plain ds (All-tail (λ e. IsRead 256 e) d ds h))

-- what is known of the program of a text
record ProgramLaws (ds : datum.Trees) (es : Nodes) : Type 0 where
  rules : KeepsRules (program_of false es)
  globals : length (program_of false es).globals ≤ 1000000
  names : Every (λ (g : GlobalName). IsLong g.name) (program_of false es).globals
  objects : length (program_of false es).statics ≤ 1000000
  words : words_of_statics (program_of false es).statics ≤ 4194304
  forms : EachAll (λ s f. CharacterIn f) (program_of false es).forms
  bodies : Every (λ (l : LambdaTree). Each (λ s f. CharacterIn f) l.body) (program_of false es).lambdas

has_code : (ds : List datum.Tree) (p : ProgramTree) → IsProgramOf false (sexp.trees ds) p → IsOk (judge_program p) →
    ((es : Nodes) → MeansText false (sexp.trees ds) es → ProgramLaws (sexp.trees ds) es) → IsCompilable p
has_code ds p has ok laws =
    let k = laws has.nodes has.means in
    let w = k.words in
    subst IsCompilable (sym has.numbered) (record {
      rules = k.rules;
      within = subst (λ q. IsOk (judge_program q)) has.numbered ok;
      parts = record {
        few_globals = k.globals;
        few_statics = k.objects;
        names = names_ok (program_of false has.nodes).globals k.names;
        few_words = let e = all_words (program_of false has.nodes).statics in omega arith;
        form_bytes = all-then (λ s f. CharacterIn f) (λ s f. Passes is_byte f) passes (program_of false has.nodes).forms k.forms;
        body_bytes = every_body (program_of false has.nodes).lambdas k.bodies;
      };
    })

-- the laws of the expander, for texts that are no library
pub record ExpanderLaws : Type 0 where
  pub plain : (n : ℕ) (d : datum.Tree) → IsRead n d → IsPlainDatum n d
  pub rules : (ds : datum.Trees) (es : Nodes) → MeansText false ds es → KeepsRules (program_of false es)
  pub globals : (ds : datum.Trees) (es : Nodes) → MeansText false ds es → length (program_of false es).globals ≤ 1000000
  pub names : (ds : datum.Trees) (es : Nodes) → AreLawful ds → MeansText false ds es →
      Every (λ (g : GlobalName). IsLong g.name) (program_of false es).globals
  pub objects : (ds : datum.Trees) (es : Nodes) → MeansText false ds es → length (program_of false es).statics ≤ 1000000
  pub words : (ds : datum.Trees) (es : Nodes) → MeansText false ds es → words_of_statics (program_of false es).statics ≤ 4194304
  pub forms : (ds : datum.Trees) (es : Nodes) → AreRead 256 ds → MeansText false ds es →
      EachAll (λ s f. CharacterIn f) (program_of false es).forms
  pub bodies : (ds : datum.Trees) (es : Nodes) → AreRead 256 ds → MeansText false ds es →
      Every (λ (l : LambdaTree). Each (λ s f. CharacterIn f) l.body) (program_of false es).lambdas

-- a program of data that were read, without an offence
pub read-has-code : ExpanderLaws → (ds : List datum.Tree) → All (λ d. IsRead 256 d) ds → (p : ProgramTree) →
    IsProgramOf false (sexp.trees ds) p → IsOk (judge_program p) → IsCompilable p
read-has-code laws ds kept p has ok =
    has_code ds p has ok (λ es m. record {
      rules = laws.rules (sexp.trees ds) es m;
      globals = laws.globals (sexp.trees ds) es m;
      names = laws.names (sexp.trees ds) es (are_lawful laws.plain ds kept) m;
      objects = laws.objects (sexp.trees ds) es m;
      words = laws.words (sexp.trees ds) es m;
      forms = laws.forms (sexp.trees ds) es (are_read ds kept) m;
      bodies = laws.bodies (sexp.trees ds) es (are_read ds kept) m;
    })
