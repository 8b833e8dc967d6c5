-- What is said to a line on pins, to a session.
use Rattle.std.proofs.Common.{◌≡◌, ◌∙◌, ◌⊎◌, inl, inr, ℕ, List, Option, None, Some, Result, Ok, Err, refl, sym, subst}
use Rattle.pst_outside.specs.World.{Image, World}
use Rattle.command_text.specs.Replies.{text}
use Rattle.command_text.specs.declared.command.Command.{Command}
use Rattle.command_text.specs.declared.reply.CommandRefusal.{CommandRefusal}
use Rattle.command_text.specs.declared.reply.LastLine.TheVariants.{NoMemory, Refused}
use Rattle.command_text.specs.declared.reply.Reply.{Reply}
use Rattle.line_server.specs.Spoken.{no_memory_text, spoken_text}
use Rattle.line_server.specs.declared.spoken.Spoken.{Spoken}
use Rattle.store_session.specs.mail_draft.declared.stop.Stop.{Stop}
use Rattle.store_session.specs.mail_draft.declared.stop.Stop.TheVariants as stops
use Rattle.mail_reading.proofs.Answered.{StopAnswers}
use Rattle.mail_searches.specs.Searching.{Searching}
use Rattle.mail_searches.specs.Step.{step}
use Rattle.mail_tree.specs.Folders.{replied}
use Rattle.node_port.specs.Pins.{Pins}
use Rattle.node_port.specs.Stops.{Room}
use Rattle.session_lines.specs.Texts.{pin_text}
use Rattle.session_lines.specs.declared.line.PinReply.TheVariants.{NoPin}
use Rattle.session_lines.specs.declared.line.SessionLine.TheVariants.{Pin, At, Unpin}
use Rattle.store_session.specs.Carrying.{CarriesOut, ComesTo, Leaves, SaysRefusal}
use Rattle.store_session.specs.Disks.{Effects, SameMedium, medium}
use Rattle.store_session.specs.declared.carrying.StoreStop.{StoreStop}
use Rattle.store_session.specs.declared.carrying.StoreStop.TheVariants.{Disk, Changed}
use Rattle.store_session.proofs.Carry.{its_medium, memory_text}
use Rattle.pinned_session.specs.Pinning.{PinsAs, UnpinsAs}
use Rattle.pinned_session.specs.Run.{AsksPin, SaysTo}
use Rattle.pinned_session.specs.Sitting.{Sitting, tree_at, without_pin}

module _ (effects : Pins → Effects) (room : Room) (S : Sitting) (old new : World) (same : new.tells → SameMedium (medium old) (medium new)) (has : Sitting → Type 0) (stands : Image → Sitting → Type 0) where
  -- ---- at

  module _ (pin : Option ℕ) (c : Command) (h : has S) (leaves : Leaves stands old new S S) where
    asked : (spoken : Spoken) → AsksPin (tree_at pin S) c (spoken_text spoken) → CarriesOut has stands (SaysTo effects room S (medium old) (At pin c)) old new S (Ok spoken)
    asked spoken is = (S, inl (is, (refl, same)), h, leaves)

    lacking : (spoken : Spoken) → spoken_text spoken ≡ no_memory_text → CarriesOut has stands (SaysTo effects room S (medium old) (At pin c)) old new S (Ok spoken)
    lacking spoken is = (S, inr (is ∙ memory_text, (refl, same)), h, leaves)

    -- there is no such pin
    pub at_none : (spoken : Spoken) → tree_at pin S ≡ None → (spoken_text spoken ≡ pin_text NoPin) ⊎ (spoken_text spoken ≡ no_memory_text) → CarriesOut has stands (SaysTo effects room S (medium old) (At pin c)) old new S (Ok spoken)
    at_none spoken none (inl is) = asked spoken (subst (λ t. AsksPin t c (spoken_text spoken)) (sym none) is)
    at_none spoken none (inr is) = lacking spoken is

    module _ (X : Searching) (some : tree_at pin S ≡ Some X) where
      steps : (spoken : Spoken) (reply : Reply) → step X c ≡ Some (X, reply) → spoken_text spoken ≡ text reply → CarriesOut has stands (SaysTo effects room S (medium old) (At pin c)) old new S (Ok spoken)
      steps spoken reply e is = asked spoken (subst (λ t. AsksPin t c (spoken_text spoken)) (sym some) (reply, e, is))

      -- it was answered
      pub at_replies : (spoken : Spoken) (reply : Reply) → step X c ≡ Some (X, reply) → (spoken_text spoken ≡ text reply) ⊎ (spoken_text spoken ≡ no_memory_text) → CarriesOut has stands (SaysTo effects room S (medium old) (At pin c)) old new S (Ok spoken)
      at_replies spoken reply e (inl is) = steps spoken reply e is
      at_replies spoken reply e (inr is) = lacking spoken is

      -- it was refused, or stopped
      pub at_stops : (stop : Stop) (r : Result Spoken StoreStop) → ComesTo stop r → StopAnswers X c stop → ((refusal : CommandRefusal) → StopAnswers X c (stops.Refused refusal) → step X c ≡ Some (X, replied (Refused refusal)))
          → CarriesOut has stands (SaysTo effects room S (medium old) (At pin c)) old new S r
      at_stops stop (Ok spoken) (inl is) answers refused_step = steps spoken (replied (Refused is.0)) (refused_step is.0 (subst (StopAnswers X c) is.1 answers)) is.2
      at_stops stop (Ok spoken) (inr is) answers refused_step = lacking spoken is
      at_stops stop (Err Disk) is answers refused_step = (S, text (replied NoMemory), inr (refl, (refl, λ none. absurd none)), leaves)
      at_stops stop (Err (Changed ib stored computed)) is answers refused_step = subst (StopAnswers X c) is answers

  -- ---- pin and unpin

  pub pin_carries : ((Z : Sitting) → Leaves stands old new S Z) → (spoken : Spoken) → PinsAs has S (spoken_text spoken) → CarriesOut has stands (SaysTo effects room S (medium old) Pin) old new S (Ok spoken)
  pin_carries leaves spoken (inl is) = (is.0, inl (inl (is.1, is.2, same)), is.3, leaves is.0)
  pin_carries leaves spoken (inr (inl is)) = (S, inl (inr (is.0, is.1, (refl, same))), is.2, leaves S)
  pin_carries leaves spoken (inr (inr is)) = (S, inr (is.0 ∙ memory_text, (refl, same)), is.1, leaves S)

  pub unpin_carries : (pin : Option ℕ) → ((Z : Sitting) → Leaves stands old new S Z) → (spoken : Spoken) → UnpinsAs has S pin (spoken_text spoken) → CarriesOut has stands (SaysTo effects room S (medium old) (Unpin pin)) old new S (Ok spoken)
  unpin_carries pin leaves spoken (inl is) = (without_pin pin S, inl (is.0, refl, same), is.1, leaves (without_pin pin S))
  unpin_carries pin leaves spoken (inr is) = (S, inr (is.0 ∙ memory_text, (refl, same)), is.1, leaves S)
