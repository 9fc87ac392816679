use Rattle.noise_tests.proofs.tests.conversations.conversed.Goals as goal

pub converse-made-requires-clause-dh_results : goal.converse-made-requires-clause-dh_results
converse-made-requires-clause-dh_results g c =
    c.xor_keys_have_dh_results.ensures c.args.pattern c.both_keys-initiator.result c.both_keys-responder.result c.both_keys-initiator.ensures.e
    c.both_keys-initiator.ensures.s c.both_keys-responder.ensures.e c.both_keys-responder.ensures.s
