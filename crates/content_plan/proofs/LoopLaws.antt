-- The loop over all changes.
use Rattle.std.proofs.Common.{true, ◌≡◌, ℕ, ◌+◌, ◌*◌, ◌^◌, ◌<◌, ◌≤◌, get_or, List, [], ◌∷◌, ◌++◌, length, take, Option}
use Rattle.pst_base.specs.declared.ids.Nid.{Nid}
use Rattle.pst_outside.specs.World.{World}
use Rattle.pst_outside.specs.Calls.{Untouched}
use Rattle.pst_header.specs.declared.header.Header.{Header}
use Rattle.btree_pages.specs.declared.entry.NodeEntry.{NodeEntry}
use Rattle.file_layout.proofs.Underway.{untouched_then}
use Rattle.file_pages.proofs.SourceLaws.{untouched-same}
use Rattle.node_port.specs.declared.node.NodeRec.{NodeRec}
use Rattle.node_port.specs.Nodes.{ascend}
use Rattle.node_store.specs.declared.node.PageCaches.{PageCaches}
use Rattle.content_plan.specs.declared.plan.ContentPlan.{ContentPlan}
use Rattle.content_plan.specs.Plan.{IsCounted, PlansContents}
use Rattle.content_plan.specs.Told.{KeepsParts, TellsParts}
use Rattle.content_plan.proofs.PlanLaws.{Changes, Front, front-next, front-start, plans-next, plans-none}

-- what a plan says, with its vectors as lists
abbrev pub Plans : (ℕ → Option (List ℕ)) → ℕ → ℕ → List NodeEntry → Changes → ContentPlan → Type 0
Plans find eof limit es cs plan = PlansContents find eof limit es cs plan.edits.items plan.blocks.items plan.taken.items plan.put.items

-- the front of the changes is planned, and the world tells what it told
pub record Planned (old now : World) (header : Header) (caches between : PageCaches) (next free : ℕ) (changes : Changes) (i : ℕ) (plan : ContentPlan) : Type 0 where
  pub same : Untouched old now
  pub keeps : KeepsParts old now header caches between
  pub front : Front next free changes i plan.edits.items plan.blocks.items
  pub high : free ≤ 2 ^ 62
  pub plans : (find : ℕ → Option (List ℕ)) (es : List NodeEntry) → TellsParts old header caches find es → Plans find header.eof next es (take i changes) plan

-- a plan is these lists
pub record Lists (plan first later : ContentPlan) : Type 0 where
  pub edits : plan.edits.items ≡ first.edits.items ++ later.edits.items
  pub blocks : plan.blocks.items ≡ first.blocks.items ++ later.blocks.items
  pub taken : plan.taken.items ≡ first.taken.items ++ later.taken.items
  pub put : plan.put.items ≡ first.put.items ++ later.put.items

pub planned-start : (old : World) (header : Header) (caches : PageCaches) (next : ℕ) (changes : Changes) (plan : ContentPlan) → ascend 0 changes ≡ true → next ≤ 2 ^ 62
    → plan.edits.items ≡ [] → plan.blocks.items ≡ [] → plan.taken.items ≡ [] → plan.put.items ≡ [] → Planned old old header caches caches next next changes 0 plan
planned-start old header caches next changes plan up high edits blocks taken put = record {
  same = untouched-same old;
  keeps = λ find es is. is;
  front = rw (edits, blocks) (front-start next changes up);
  high = high;
  plans = λ find es is. rw (edits, blocks, taken, put) (plans-none find header.eof next es);
}

pub planned-next : (old now new : World) (header : Header) (caches between after : PageCaches) (next free end : ℕ) (changes : Changes) (i : ℕ) (c : Nid × Option NodeRec) (plan one whole : ContentPlan)
    → i < length changes → c ≡ get_or changes i c → (c.0).bits < 2 ^ 64 → end ≡ free + 4 * length one.blocks.items → end ≤ 2 ^ 62
    → Planned old now header caches between next free changes i plan → Untouched now new → KeepsParts now new header between after → IsCounted free (c.0).bits ((c.0).bits + 1) (c ∷ []) one.edits.items one.blocks.items
    → ((find : ℕ → Option (List ℕ)) (es : List NodeEntry) → TellsParts now header between find es → Plans find header.eof next es (c ∷ []) one) → Lists whole plan one → Planned old new header caches after next end changes (i + 1) whole
planned-next old now new header caches between after next free end changes i c plan one whole h is small behind high p same keeps counted plans lists = record {
  same = untouched_then p.same same;
  keeps = λ find es told. keeps find es (p.keeps find es told);
  front = rw (lists.edits, lists.blocks) (front-next next free end changes i c plan.edits.items one.edits.items plan.blocks.items one.blocks.items h is small behind p.front counted);
  high = high;
  plans = λ find es told.
      rw (lists.edits, lists.blocks, lists.taken, lists.put)
      (plans-next find header.eof next es next free changes i c plan.edits.items one.edits.items plan.blocks.items one.blocks.items plan.taken.items one.taken.items plan.put.items one.put.items h is p.front counted (p.plans find es told) (plans find es (p.keeps find es told)));
}
