use Rattle.hek_debug_command.proofs.stop_text.+put_hex.Given as goal

abbrev pub decreases-put_hex : goal.decreases-put_hex
decreases-put_hex l = l.count
