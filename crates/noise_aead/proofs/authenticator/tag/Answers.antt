use Rattle.std.proofs.Common.{◌≡◌, List, ℕ, ◌++◌, [], length, sym, subst, append_assoc}
use Rattle.noise_aead.proofs.Common.{w64, to_le_bytes, padding, authenticated}
use Rattle.noise_poly.specs.State.{Holds}
use Rattle.noise_aead.proofs.authenticator.tag.Goals as goal

pub returns : goal.returns
returns c =
    let key : List ℕ = c.args.one_time_key.now in
    let ad : List ℕ = c.args.ad.now in
    let text : List ℕ = c.args.ciphertext.now in
    let partial : Holds key c.update-5.new.self (ad ++ c.zeros_after.result.now ++ text ++ c.zeros_after-2.result.now ++ c.lengths.result) =
    c.update-5.ensures key _ (c.update-4.ensures key _ (c.update-3.ensures key _
    (c.update-2.ensures key _ (c.update.ensures key [] c.new-state.ensures)))) in
    let same : ad ++ c.zeros_after.result.now ++ text ++ c.zeros_after-2.result.now ++ c.lengths.result ≡ authenticated ad text =
    rw (c.zeros_after.ensures, c.zeros_after-2.ensures, c.lengths.ensures)
    (sym (append_assoc (ad ++ padding ad ++ text ++ padding text) (to_le_bytes w64 (length ad)) (to_le_bytes w64 (length text)))) in
    c.finish.ensures key (authenticated ad text) (subst (Holds key c.update-5.new.self) same partial)
