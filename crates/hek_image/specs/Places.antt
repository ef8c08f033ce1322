-- A place, without where its bytes lie in memory, and a header.
use Rattle.hek_image.specs.declared.place.Place.{Place}
use Rattle.hek_image.specs.declared.loading.Header.{Header}
use Rattle.hek_image.specs.Loading.{Place as Seen, Header as Said}

abbrev pub place_seen : Place → Seen
place_seen p = record { at = p.at; rest = p.rest.now }

abbrev pub header_of : Header → Said
header_of h = record { version = h.version; rows = h.rows; txns = h.txns; steps = h.steps }
