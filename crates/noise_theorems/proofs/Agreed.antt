-- All that two ends agree on, of its parts.
use Rattle.std.proofs.Common.{◌⊎◌, inl, inr, ℕ, List}
use Rattle.noise_names.specs.Lists.{bytes_of}
use Rattle.noise_names.specs.Plan.{Plan}
use Rattle.noise_events.specs.Events.{Event}
use Rattle.noise_duel.specs.declared.report.Report.{Report}
use Rattle.noise_duel.specs.DuelValue.{DuelValue}
use Rattle.noise_duel.specs.Entries.{notes_of}
use Rattle.noise_duel.specs.Messages.{Start}
use Rattle.noise_duel.specs.Networks.{HaveOneHistory, HaveClash, PayloadsAgree}
use Rattle.noise_duel.specs.Sides.{Sides}
use Rattle.noise_theorems.specs.Agreement.{HaveAgreed}
use Rattle.noise_theorems.specs.Entries.{EntriesAgree, KeysMeet}
use Rattle.noise_keys.specs.Keys.{KeyPairs}

module _ {K : Type 0} (pairs : K → KeyPairs) where
  pub all-agreed : (p : Plan) (a b : Start) (interval : ℕ) (events : List Event) (duel : DuelValue K K) (report : Report) (last : Sides)
      → (HaveOneHistory p a b last ⊎ HaveClash p a b last) → (PayloadsAgree interval last ⊎ HaveClash p a b last)
      → (EntriesAgree p interval events (notes_of report.entries.items) (bytes_of report.initiator.items) (bytes_of report.responder.items) last
      ⊎ HaveClash p a b last) → (KeysMeet events (notes_of report.entries.items) duel ⊎ HaveClash p a b last)
      → HaveAgreed pairs p a b interval events duel report last ⊎ HaveClash p a b last
  all-agreed p a b interval events duel report last (inl one) (inl same) (inl all) (inl keys) =
      inl (record { history = one; payloads = same; entries = all; keys = keys })
  all-agreed p a b interval events duel report last (inr clash) f g h = inr clash
  all-agreed p a b interval events duel report last (inl one) (inr clash) g h = inr clash
  all-agreed p a b interval events duel report last (inl one) (inl same) (inr clash) h = inr clash
  all-agreed p a b interval events duel report last (inl one) (inl same) (inl all) (inr clash) = inr clash
