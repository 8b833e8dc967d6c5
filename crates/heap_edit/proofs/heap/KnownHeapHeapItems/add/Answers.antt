use Rattle.std.proofs.Common.{◌≡◌, ℕ, List, Option, sym, subst}
use Rattle.std.proofs.lemmas.Result.{IfOk-weaker, on_err_weaker}
use Rattle.heap_items.specs.Items.{AddsItem}
use Rattle.heap_edit.specs.Heaps.{Adds}
use Rattle.heap_edit.specs.Known.{Known, MakesHeap, Reads}
use Rattle.heap_edit.proofs.KnownLaws.{reads-adds}
use Rattle.heap_edit.proofs.heap.KnownHeapHeapItems.add.Goals as goal

pub returns : goal.returns
returns c = record {
  adds = IfOk-weaker c.add_item.result (λ (hid : ℕ). MakesHeap (λ old new. Adds old hid c.args.x.now new) c.args.self.now c.add_item.new.self)
      (λ (hid : ℕ). (was : List (List ℕ)) (get : ℕ → Option (List ℕ)) → Reads c.args.self.now was get → AddsItem (Reads c.add_item.new.self was) get c.args.x.now hid)
      (λ hid makes. reads-adds c.args.self.now c.add_item.new.self c.args.x.now hid makes) c.add_item.ensures.ok;
  err = on_err_weaker c.add_item.result (λ same was get told. subst (λ (e : Known). Reads e was get) (sym same) told) c.add_item.ensures.err;
}
