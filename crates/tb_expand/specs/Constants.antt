-- Constants that are short enough for static objects: their numbers are fixnums, and their texts and vectors have
-- fewer than 2^24 bytes and elements.
use Rattle.std.specs.Prelude.{◌≡◌, ℕ, ◌<◌, ◌^◌, true, length}
use Rattle.tb_prim.specs.Fixnums.{is_fixnum}
use Rattle.tb_prim.specs.declared.constant.Const.{Const}
use Rattle.tb_core.specs.Rules.{ConstKeeps}
use Rattle.tb_core.specs.Tree as core
use Rattle.tb_core.specs.Tree.{Form}
use Rattle.tb_sexp.specs.Tree as datum
use Rattle.tb_expand.specs.Limits.{how_many_data}
use Rattle.tb_expand.specs.Trees.{Node, At, Core, Constant, Unspecified, Undefined, Local, Global, Lambda, If, SetLocal, SetGlobal, DefGlobal, Let, Letrec, Seq, Call, PrimUse, Apply, Nodes, nil, cons}

-- a quoted datum whose numbers are fixnums and whose texts and vectors are short
abbrev mutual
  pub IsShort : datum.Tree → Type 0
  IsShort (datum.At p s) = IsShortIn s

  pub IsShortIn : datum.Shape → Type 0
  IsShortIn datum.Nil = Unit {0}
  IsShortIn (datum.Truth b) = Unit {0}
  IsShortIn (datum.Fixnum n) = is_fixnum n ≡ true
  IsShortIn (datum.Character c) = Unit {0}
  IsShortIn (datum.String s) = length s < 2 ^ 24
  IsShortIn (datum.Name s alias) = length s < 2 ^ 24
  IsShortIn (datum.Proper ds) = AreShort ds
  IsShortIn (datum.Dotted ds d) = AreShort ds × IsShort d
  IsShortIn (datum.Vector ds) = (how_many_data ds < 2 ^ 24) × AreShort ds

  pub AreShort : datum.Trees → Type 0
  AreShort datum.none = Unit {0}
  AreShort (datum.more d ds) = IsShort d × AreShort ds

-- nodes whose constants are short
abbrev mutual
  pub HasShort : Node → Type 0
  HasShort (At p c) = HasShortIn c

  pub HasShortIn : Core → Type 0
  HasShortIn (Constant s) = IsShortIn s
  HasShortIn Unspecified = Unit {0}
  HasShortIn Undefined = Unit {0}
  HasShortIn (Local x) = Unit {0}
  HasShortIn (Global g) = Unit {0}
  HasShortIn (Lambda xs r b) = HasShort b
  HasShortIn (If a b c) = HasShort a × HasShort b × HasShort c
  HasShortIn (SetLocal x e) = HasShort e
  HasShortIn (SetGlobal q g e) = HasShort e
  HasShortIn (DefGlobal g e) = HasShort e
  HasShortIn (Let xs es e) = HaveShort es × HasShort e
  HasShortIn (Letrec xs es e) = HaveShort es × HasShort e
  HasShortIn (Seq es) = HaveShort es
  HasShortIn (Call f es) = HasShort f × HaveShort es
  HasShortIn (PrimUse p es) = HaveShort es
  HasShortIn (Apply f l) = HasShort f × HasShort l

  pub HaveShort : Nodes → Type 0
  HaveShort nil = Unit {0}
  HaveShort (cons e es) = HasShort e × HaveShort es

-- the constant of a node names one of so many static objects, and a fixnum is one
abbrev pub ConstantIn : ℕ → Form → Type 0
ConstantIn n (core.Quote c) = ConstKeeps n c
ConstantIn n (core.Local x) = Unit {0}
ConstantIn n (core.Global g) = Unit {0}
ConstantIn n (core.Lambda l) = Unit {0}
ConstantIn n (core.If a b c) = Unit {0}
ConstantIn n (core.SetLocal x e) = Unit {0}
ConstantIn n (core.SetGlobal g e) = Unit {0}
ConstantIn n (core.DefGlobal g e) = Unit {0}
ConstantIn n (core.Let xs es e) = Unit {0}
ConstantIn n (core.Letrec xs ls e) = Unit {0}
ConstantIn n (core.Seq es) = Unit {0}
ConstantIn n (core.Call f es) = Unit {0}
ConstantIn n (core.PrimUse q es) = Unit {0}
ConstantIn n (core.Apply f l) = Unit {0}

-- a constant that is a character is a byte
abbrev pub CharacterKeeps : Const → Type 0
CharacterKeeps (Const.Fix n) = Unit {0}
CharacterKeeps (Const.Char c) = c < 256
CharacterKeeps (Const.Bool b) = Unit {0}
CharacterKeeps Const.Nil = Unit {0}
CharacterKeeps Const.Unspecified = Unit {0}
CharacterKeeps Const.Undefined = Unit {0}
CharacterKeeps (Const.Stat n) = Unit {0}

-- the same of the constant of a node
abbrev pub CharacterIn : Form → Type 0
CharacterIn (core.Quote c) = CharacterKeeps c
CharacterIn (core.Local x) = Unit {0}
CharacterIn (core.Global g) = Unit {0}
CharacterIn (core.Lambda l) = Unit {0}
CharacterIn (core.If a b c) = Unit {0}
CharacterIn (core.SetLocal x e) = Unit {0}
CharacterIn (core.SetGlobal g e) = Unit {0}
CharacterIn (core.DefGlobal g e) = Unit {0}
CharacterIn (core.Let xs es e) = Unit {0}
CharacterIn (core.Letrec xs ls e) = Unit {0}
CharacterIn (core.Seq es) = Unit {0}
CharacterIn (core.Call f es) = Unit {0}
CharacterIn (core.PrimUse q es) = Unit {0}
CharacterIn (core.Apply f l) = Unit {0}
