-- The lines of the key schedules after the events.
use Rattle.std.proofs.Common.{rules, ◌≡◌, ◌∙◌, ◌&&◌, refl, sym, ℕ, true, false, List, [], ◌∷◌, ◌++◌, Option, is_some}
use Rattle.noise_run.proofs.Common.{Initiator, Responder, Sides, FileDatagrams, AreLast, are_ready, AreOver, datagram_keys_of, last_traces, Selection}
use Rattle.noise_run.specs.Running.AreLast.{without, unready, ready}

pub last-goes : (selection : Selection) (datagrams : Option FileDatagrams) (d : Sides) (after : List (List ℕ)) (a : AreLast datagrams d after)
    → (is_some datagrams && are_ready d) ≡ true
    → last_traces selection datagrams d after a ≡ (datagram_keys_of selection Initiator d.initiator.state ++ datagram_keys_of selection Responder d.responder.state) ∷ []
last-goes selection datagrams d after (without _) e = absurd (cc e)
last-goes selection datagrams d after (unready _ _ not_ready) e = let bad = sym not_ready ∙ e in absurd (cc bad)
last-goes selection datagrams d after (ready _ _ notes last are run) e = refl

pub last-stays : (selection : Selection) (datagrams : Option FileDatagrams) (d : Sides) (after : List (List ℕ)) (a : AreLast datagrams d after)
    → (is_some datagrams && are_ready d) ≡ false → last_traces selection datagrams d after a ≡ []
last-stays selection datagrams d after (without _) e = refl
last-stays selection datagrams d after (unready _ _ not_ready) e = refl
last-stays selection datagrams d after (ready _ _ notes last are run) e = let bad = sym are ∙ e in absurd (cc bad)

-- ---- ends that are ready have passed the handshake

pub ready-over : (datagrams : Option FileDatagrams) (d : Sides) → (is_some datagrams && are_ready d) ≡ true → AreOver d
ready-over datagrams d e = search rules
