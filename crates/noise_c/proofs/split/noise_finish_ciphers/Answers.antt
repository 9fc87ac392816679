use Rattle.noise_c.proofs.split.noise_finish_ciphers.Goals as goal

pub returns-clause-made : goal.returns-clause-made
returns-clause-made c e = record {
  done = λ p v k. (c.in-Ok.ensures.opens p v k).whole;
  sends = λ p v k. c.ciphers_to_c.ensures.sends v (c.in-Ok.ensures.opens p v k);
  receives = λ p v k. c.ciphers_to_c.ensures.receives v (c.in-Ok.ensures.opens p v k);
  known = c.ciphers_to_c.ensures.marks;
}
