use Rattle.link_words.proofs.lead.lead.Given as goal

abbrev pub ghosts-led_over : goal.ghosts-led_over
ghosts-led_over g a = record { disk = a.outbox.ghost_name }
