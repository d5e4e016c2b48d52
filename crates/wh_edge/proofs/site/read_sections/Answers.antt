use Rattle.std.proofs.Common.{rules, refl, subst, sym}
use Rattle.wh_edge.specs.Site.{MapRead, SiteFault, SiteRead}
use Rattle.wh_edge.specs.declared.trouble.Trouble.{Trouble}
use Rattle.wh_edge.proofs.site.read_sections.Goals as goal

pub returns-in-Err-parked-clause-fault : goal.returns-in-Err-parked-clause-fault
returns-in-Err-parked-clause-fault g c =
    let why = c.in-Err-parked.ensures.fault in
    let map : MapRead c.args.lines.now c.section.new.self c.in-Ok-read.grid = record {
      text = c.in-Ok.map.items;
      section = c.in-Ok.ensures.ok;
      within = c.in-Ok.ensures.within;
      says = search rules;
    } in
    let read : SiteRead c.args.lines.now c.section-2.new.self c.in-Ok-read.grid c.in-Ok-read-2.points = record {
      between = c.section.new.self;
      map = map;
      text = c.in-Ok-section.text.items;
      section = c.in-Ok-section.ensures.ok;
      within = c.in-Ok-section.ensures.within;
      says = search rules;
    } in
    subst (λ (told : Trouble). SiteFault c.args.homes told c.args.lines.now c.section-2.new.self) (sym why.is)
    (record { site = record { grid = c.in-Ok-read.grid; layout = c.in-Ok-read-2.points; homes = c.args.homes }; read = read; rule = why.rule; first = why.first })

pub returns-clause-ok : goal.returns-clause-ok
returns-clause-ok g c =
    let map : MapRead c.args.lines.now c.section.new.self c.in-Ok-read.grid = record {
      text = c.in-Ok.map.items;
      section = c.in-Ok.ensures.ok;
      within = c.in-Ok.ensures.within;
      says = search rules;
    } in
    record {
      ruled = record {
        read = record {
          between = c.section.new.self;
          map = map;
          text = c.in-Ok-section.text.items;
          section = c.in-Ok-section.ensures.ok;
          within = c.in-Ok-section.ensures.within;
          says = search rules;
        };
        rule = refl;
        parked = search rules;
      };
      map_is = refl;
      points_is = refl;
    }
