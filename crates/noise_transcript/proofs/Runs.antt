-- The run of a file whose lines fit.
use Rattle.std.proofs.Common.{◌≡◌, ◌∙◌, refl, ap, sym, subst, ℕ, List, [], ◌++◌, length, map, Option, None}
use Rattle.noise_transcript.proofs.Common.{true, is_some, Role, Initiator, Responder, Plan, places_of, IsValid, is_among, occurs, is_dh, public_keys, setup_fault, token_of, Event, HaveParts, KeyMaterial, MessagesComeThrough, MessagesLeave, MessagesRun, state_after_lines, transcript, Start, Sides, VectorFile, sides_of_file, file_start, note_line, state_lines, AreLast, HasFittingMessages, FittingMessagesRun, exchange_lines}
use Rattle.noise_names.specs.declared.token.Token.{Token}
use Rattle.noise_keys.specs.declared.keys.Own.{Own}
use Rattle.noise_keys.specs.KeyTokens.{own_at}
use Rattle.noise_handshake.specs.RemoteKeys.{remote-own}
use Rattle.noise_handshake.specs.declared.remote.Remote.{Remote}
use Rattle.noise_handshake.specs.Party.{remote_at}
use Rattle.noise_duel.specs.Notes.{Note}
use Rattle.noise_duel.specs.Runs.{Run}
use Rattle.noise_duel.specs.SetUpAlike.{AlikeAreParts, HaveOneMaterial, AreSetUpAlike, HasDhResults, material_of}
use Rattle.noise_theorems.specs.Turns.{MessagesTakeTurns}
use Rattle.noise_vectors.specs.declared.vector.FileDatagrams.{FileDatagrams}
use Rattle.noise_run.specs.Running.AreLast.{without}
use Rattle.noise_transcript.proofs.Exchange.{noted-lines, same-writers}
use Rattle.noise_transcript.proofs.Reached.{both-there}
use Rattle.noise_transcript.proofs.FileKeysAgree.{keys-agree, long-keys, xor-dh-results}

-- what the laws of the crates below say
pub record Laws : Type 0 where
  pub own : (p : Plan) (role : Role) (own : Own → Option (List ℕ)) (known : Remote) (n : ℕ) → setup_fault p role own known n ≡ None
      → (x : Own) → is_among role (token_of x) (places_of p) ≡ true → is_some (own x) ≡ true
  pub keys : (p : Plan) (role : Role) (t : Token) → IsValid p → is_dh t ≡ true → occurs t (places_of p) ≡ true
      → is_among role (token_of (own_at role t)) (places_of p) ≡ true
  pub parts : AlikeAreParts
  pub come : MessagesComeThrough
  pub leave : MessagesLeave
  pub can : MessagesRun
  pub turns : MessagesTakeTurns

module _ (laws : Laws) (file : VectorFile) (p : Plan) (lines : List (Role × List ℕ)) (fits : HasFittingMessages file p lines) where
  abbrev a : Start
  a = file_start file p Initiator

  abbrev b : Start
  b = file_start file p Responder

  dh_results : HasDhResults p a b
  dh_results t d o =
      let mine = laws.own p Initiator a.own a.remote (length a.psks) (fits.set_up Initiator) (own_at Initiator t) (laws.keys p Initiator t fits.valid d o) in
      let theirs = laws.own p Responder b.own b.remote (length b.psks) (fits.set_up Responder) (own_at Responder t)
      (laws.keys p Responder t fits.valid d o) in (
        xor-dh-results file.initiator fits.initiator (own_at Initiator t) (remote_at Initiator (public_keys b.own) t) mine
            (ap (λ (key : Option (List ℕ)). is_some key) (remote-own Initiator b.own t) ∙ theirs),
        xor-dh-results file.responder fits.responder (own_at Responder t) (remote_at Responder (public_keys a.own) t) theirs
            (ap (λ (key : Option (List ℕ)). is_some key) (remote-own Responder a.own t) ∙ mine),
      )

  alike : AreSetUpAlike p file.prologue.items a b
  alike = record {
    initiator = fits.set_up Initiator;
    responder = fits.set_up Responder;
    prologue_is = refl;
    prologue_too = refl;
    psks = refl;
    known = refl;
    known_too = refl;
    keys = keys-agree file.initiator file.responder fits.initiator fits.responder;
  }

  parts : HaveOneMaterial p file.prologue.items a b
  parts = laws.parts p file.prologue.items a b fits.valid alike (long-keys file.initiator fits.right.initiator)
      (long-keys file.responder fits.right.responder) dh_results

  have : HaveParts (material_of a b) p file.prologue.items a b
  have = record { pattern = fits.pattern; valid = fits.valid; long = parts.long; initiator = parts.initiator; responder = parts.responder }

pub fitting-messages-run : Laws → FittingMessagesRun
fitting-messages-run laws file p lines fits =
    let a : Start = file_start file p Initiator in
    let b : Start = file_start file p Responder in
    let w : KeyMaterial = material_of a b in
    let text : List ℕ = file.prologue.items in
    let i : ℕ = file.interval in
    let both = have laws file p lines fits in
    let turns = laws.turns p lines fits.fit in
    let made = laws.can w p text a b i lines both turns in
    let notes : List (Role × Note) = made.0 in
    let last : Sides = made.1 in
    let come = laws.come w p text a b i lines notes last both turns made.2 in
    let left = laws.leave w p text a b i lines notes last both turns made.2 in
    let said : List (Role × List ℕ) = transcript w p text i lines in
    let exchanged : map (note_line last) notes ≡ exchange_lines 0 0 lines said =
    ap (λ (ns : List (Role × Note)). map (note_line last) ns) come.0
    ∙ noted-lines last 0 0 [] [] lines said (same-writers w p text i lines turns) refl refl (come.1.frames Initiator) (come.1.frames Responder) in
    let reached = both-there p a b i (state_after_lines w p text lines) lines last left.0 left.1 in
    record {
      plan = p;
      of_file = record { pattern = fits.named; valid = fits.valid; set_up = fits.set_up };
      notes = notes;
      last = last;
      run = subst (λ (events : List Event). Run (sides_of_file file p) events notes last) (sym fits.said) made.2;
      after = state_lines last;
      are_last = subst (λ (ended_party : Option FileDatagrams). AreLast ended_party last (state_lines last)) (sym fits.alone) (without last);
      lines_are = sym (ap (λ (ls : List (List ℕ)). ls ++ state_lines last) exchanged ∙ ap (λ (ls : List (List ℕ)). exchange_lines 0 0 lines said ++ ls) reached);
    }
