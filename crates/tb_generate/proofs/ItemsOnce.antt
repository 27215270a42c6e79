-- The conditions of an assembler hold in one way.
use Rattle.std.proofs.Common.{ℕ, List, All, slice_get}
use Rattle.std.proofs.Props.{props}
use Rattle.std.specs.Coded.{×_prop, Unit-prop}
use Rattle.tb_prim.specs.declared.constant.Const.{Const}
use Rattle.tb_prim.specs.declared.constant.Static.{Static}
use Rattle.tb_mac.specs.declared.code.LiveMap.{LiveMap}
use Rattle.tb_mac.specs.declared.code.LambdaEntry.{LambdaEntry}
use Rattle.tb_mac.specs.declared.code.OrderEntry.{OrderEntry}
use Rattle.tb_mac.specs.declared.code.Parts.{Parts}
use Rattle.tb_mac.specs.declared.item.Item.{Item}
use Rattle.tb_mac.specs.declared.item.Item.TheVariants.{Label, Ins}
use Rattle.tb_mac.specs.Assemble.{EntryStands, ItemOk, ItemsOk}
use Rattle.tb_mac.specs.Rules.{ConstOk, MapOk, NameOk, OrderOk, PartsOk, StaticAtOk, StaticOk}
use Rattle.tb_mac.proofs.RuleLaws.{IfSome-prop, InstrOk-prop}

All-prop : {X : Type 0} (P : X → Type 0) → ((x : X) → IsProp (P x)) → (xs : List X) → IsProp (All P xs)
All-prop P h xs = hlevel (h, props)

ConstOk-prop : (statics : List Static) (index : ℕ) (c : Const) → IsProp (ConstOk statics index c)
ConstOk-prop statics index (Const.Fix v) = hlevel props
ConstOk-prop statics index (Const.Char c) = Unit-prop
ConstOk-prop statics index (Const.Bool b) = Unit-prop
ConstOk-prop statics index Const.Nil = Unit-prop
ConstOk-prop statics index Const.Unspecified = Unit-prop
ConstOk-prop statics index Const.Undefined = Unit-prop
ConstOk-prop statics index (Const.Stat n) = hlevel props

StaticOk-prop : (statics : List Static) (index : ℕ) (s : Static) → IsProp (StaticOk statics index s)
StaticOk-prop statics index (Static.Pair a b) = ×_prop (ConstOk-prop statics index a) (ConstOk-prop statics index b)
StaticOk-prop statics index (Static.Vector cs) = ×_prop (hlevel props) (All-prop _ (ConstOk-prop statics index) cs)
StaticOk-prop statics index (Static.Str bs) = hlevel props
StaticOk-prop statics index (Static.Sym bs) = hlevel props

OrderOk-prop : (o : OrderEntry) → IsProp (OrderOk o)
OrderOk-prop o = hlevel props

MapOk-prop : (m : LiveMap) → IsProp (MapOk m)
MapOk-prop m = hlevel (props, IfSome-prop)

StaticAtOk-prop : (statics : List Static) (n : ℕ) → IsProp (StaticAtOk statics n)
StaticAtOk-prop statics n = IfSome-prop _ (StaticOk-prop statics n) (slice_get statics n)

PartsOk-prop : (parts : Parts) → IsProp (PartsOk parts)
PartsOk-prop parts =
    let names : IsProp (All NameOk parts.globals) = All-prop NameOk (λ g. hlevel props) parts.globals in
    let orders : IsProp (All OrderOk parts.order) = All-prop OrderOk OrderOk-prop parts.order in
    hlevel (props, names, StaticAtOk-prop, orders)

ItemOk-prop : (parts : Parts) (i : Item) → IsProp (ItemOk parts i)
ItemOk-prop parts (Label l) = Unit-prop
ItemOk-prop parts (Ins i m p) = hlevel (props, InstrOk-prop, MapOk-prop)

EntryStands-prop : (items : List Item) (n : ℕ) (l : LambdaEntry) → IsProp (EntryStands items n l)
EntryStands-prop items n l = hlevel props

pub ItemsOk-prop : (parts : Parts) (items : List Item) → IsProp (ItemsOk parts items)
ItemsOk-prop parts items =
    let all : IsProp (All (ItemOk parts) items) = All-prop (ItemOk parts) (ItemOk-prop parts) items in
    hlevel (props, PartsOk-prop, all, EntryStands-prop)
